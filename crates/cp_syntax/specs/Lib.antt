pub mod Nests
pub mod Views
pub mod Refusals
