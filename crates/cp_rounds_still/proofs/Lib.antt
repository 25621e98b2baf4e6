pub mod Rounds
pub mod StillStates
