pub mod Tables
pub mod Allowing
