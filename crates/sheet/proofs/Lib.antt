pub mod Parts
pub mod Checked
pub mod Fitting
pub mod FewLines
