pub mod BySums
pub mod Choosing
pub mod Counting
pub mod Filling
pub mod House
pub mod Places
pub mod Strikes
pub mod Summing
