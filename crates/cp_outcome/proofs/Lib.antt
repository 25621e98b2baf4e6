pub mod Testing
pub mod Transcripts
pub mod Sections
pub mod Ends
