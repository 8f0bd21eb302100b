pub mod Answering
pub mod Checks
pub mod Sheets
pub mod Written
