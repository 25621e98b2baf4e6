pub mod ObjectLines
