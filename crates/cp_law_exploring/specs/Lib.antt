pub mod Exploring
pub mod Laws
