pub mod Distinct
pub mod Sum
pub mod DistinctLaw
pub mod SumLaw
