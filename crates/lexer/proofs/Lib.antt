pub mod Pieces
pub mod Iterators
