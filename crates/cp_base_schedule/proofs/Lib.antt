pub mod Added
pub mod FirstPiece
pub mod Lines
pub mod Numerals
pub mod Parts
pub mod Within
