pub mod SearchStates
pub mod Verdicts
pub mod Alone
