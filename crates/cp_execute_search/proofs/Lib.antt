pub mod Fine
pub mod Certified
pub mod SearchesDue
