pub mod Labels
pub mod Shifts
pub mod View
pub mod Reaches
