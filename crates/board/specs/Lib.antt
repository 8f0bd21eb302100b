pub mod Log
pub mod Noted
pub mod Past
pub mod Views
