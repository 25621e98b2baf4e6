pub mod Lists
pub mod MadeTurns
pub mod Crossing
