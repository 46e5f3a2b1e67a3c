pub mod Guards
pub mod Written
