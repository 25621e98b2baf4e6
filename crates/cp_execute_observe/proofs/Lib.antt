pub mod OutcomesDue
pub mod Traced
pub mod RoundsMade
pub mod Reported
