pub mod Turned
pub mod Inputs
pub mod Quiet
pub mod Tasks
pub mod Numbers
