pub mod Sums
mod Counterexample
