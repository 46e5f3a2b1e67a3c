pub mod Limits
pub mod Rows
pub mod Tables
pub mod Meant
