pub mod Draws
pub mod Stripes
pub mod Views
pub mod Models
pub mod Rule
pub mod Steps
pub mod SeatInside
pub mod BoardInside
