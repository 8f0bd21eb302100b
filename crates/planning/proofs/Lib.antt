pub mod Below
pub mod Listing
pub mod Lists
pub mod PartPlans
pub mod PlanOrder
pub mod Sheets
pub mod Slots
pub mod WorkingTables
