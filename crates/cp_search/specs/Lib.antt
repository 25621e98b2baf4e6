pub mod SearchResults
pub mod Batches
