pub mod Resting
pub mod Rounds
pub mod Reports
mod Example
