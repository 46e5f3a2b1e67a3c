pub mod Sound
pub mod Faithful
