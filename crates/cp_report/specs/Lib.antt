pub mod Lines
pub mod Subjects
pub mod WholeReports
