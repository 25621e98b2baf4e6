pub mod Loops
pub mod Symbols
pub mod Rooms
pub mod Stops
