pub mod Translated
pub mod Statements
pub mod Initialisation
