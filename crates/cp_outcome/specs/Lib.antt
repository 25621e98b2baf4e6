pub mod Verdicts
pub mod Statuses
pub mod Transcripts
pub mod Outcomes
