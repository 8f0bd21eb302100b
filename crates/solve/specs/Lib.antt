pub mod Lines
pub mod Right
pub mod Solved
