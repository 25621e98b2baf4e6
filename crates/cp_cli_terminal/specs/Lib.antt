pub mod Choices
pub mod Painting
