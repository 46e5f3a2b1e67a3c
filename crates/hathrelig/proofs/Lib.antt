mod Texts
mod Outputs
mod Inputs
