pub mod Regions
pub mod Stores
pub mod Calls
