pub mod Rows
pub mod Tables
pub mod Tops
pub mod Answered
pub mod Opened
