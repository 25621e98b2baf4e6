pub mod Asked
pub mod Explained
pub mod Objects
pub mod Values
