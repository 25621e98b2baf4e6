pub mod Forms
pub mod Outcomes
pub mod Traces
pub mod Writing
