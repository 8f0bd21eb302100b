pub mod Counts
pub mod Keeps
pub mod Lowest
pub mod Words
