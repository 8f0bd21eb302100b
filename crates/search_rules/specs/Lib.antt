pub mod Right
pub mod Search
