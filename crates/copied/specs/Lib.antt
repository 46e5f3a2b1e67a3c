pub mod Cells
pub mod Parts
pub mod Meant
