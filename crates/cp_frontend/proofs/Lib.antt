pub mod Bytes
pub mod Parts
pub mod TextRefusals
pub mod Takings
pub mod Faults
