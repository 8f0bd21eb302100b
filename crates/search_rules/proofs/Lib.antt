pub mod Minima
pub mod Orders
pub mod Solved
pub mod Tallies
pub mod Visits
pub mod WorkingSets
