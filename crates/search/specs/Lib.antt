pub mod Counts
pub mod Frames
pub mod Outcomes
pub mod Runs
pub mod Saves
pub mod Trails
