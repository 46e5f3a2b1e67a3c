pub mod Named
pub mod Advances
