pub mod Reported
pub mod Replays
pub mod OrderRefusals
pub mod OrdersDue
