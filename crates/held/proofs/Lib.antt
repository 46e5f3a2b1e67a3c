pub mod Rows
pub mod Promoting
pub mod Marking
pub mod Beginnings
pub mod Saving
