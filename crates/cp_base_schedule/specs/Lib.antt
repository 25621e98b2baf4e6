pub mod Events
pub mod Parts
pub mod Pieces
pub mod Reading
pub mod Rounds
