pub mod Stored
pub mod States
pub mod Moves
