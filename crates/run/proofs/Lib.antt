pub mod Starts
pub mod Opened
pub mod Portions
pub mod Serving
pub mod Answered
