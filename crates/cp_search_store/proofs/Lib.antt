pub mod Numbered
pub mod Listed
pub mod Growing
pub mod Made
