pub mod Steps
pub mod Scripts
mod Inputs
pub mod Setting
pub mod Cells
pub mod Moving
pub mod Keeping
pub mod Sparing
pub mod Staying
