pub mod Totals
pub mod Changes
pub mod Moving
pub mod Meeting
pub mod Facts
pub mod Stores
pub mod Calls
