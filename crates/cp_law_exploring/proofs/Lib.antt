pub mod Settling
pub mod Starting
pub mod Reported
