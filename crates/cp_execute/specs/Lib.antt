pub mod Executed
pub mod Replayed
pub mod MachineReports
