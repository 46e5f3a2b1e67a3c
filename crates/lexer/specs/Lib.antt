pub mod Checks
pub mod Bytes
pub mod Split
pub mod Kinds
pub mod Number
pub mod Names
