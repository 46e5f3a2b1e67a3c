pub mod Calling
pub mod Cells
pub mod Popping
pub mod Typing
