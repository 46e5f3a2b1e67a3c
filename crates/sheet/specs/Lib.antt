pub mod Words
pub mod Operands
pub mod Assembly
pub mod Reading
