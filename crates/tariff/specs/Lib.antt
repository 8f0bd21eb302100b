pub mod Charges
pub mod Rounding
pub mod Sums
pub mod Tariffs
pub mod Orders
