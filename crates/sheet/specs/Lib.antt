pub mod Contents
pub mod Edits
pub mod Laws
pub mod Undoing
