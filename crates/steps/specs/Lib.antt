pub mod Planning
pub mod Advancing
pub mod Waiting
