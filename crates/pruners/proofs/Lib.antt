pub mod Affording
pub mod Least
pub mod Striking
pub mod Totals
