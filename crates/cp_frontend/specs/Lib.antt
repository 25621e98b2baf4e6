pub mod Refusals
pub mod Cutting
pub mod Texts
pub mod Takings
pub mod KnownRefusals
pub mod Inputs
