pub mod States
pub mod Cores
pub mod Searched
