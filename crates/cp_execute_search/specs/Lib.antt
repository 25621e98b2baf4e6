pub mod Statuses
pub mod Certificates
pub mod Searches
