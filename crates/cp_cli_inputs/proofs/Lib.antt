pub mod Meant
pub mod Read
