pub mod Reporting
pub mod Tracers
