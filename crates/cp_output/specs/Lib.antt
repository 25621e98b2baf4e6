pub mod Json
pub mod Pages
pub mod Positions
