mod About
mod First
mod Lines
mod Sent
