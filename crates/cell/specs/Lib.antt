pub mod Filled
pub mod Elements
