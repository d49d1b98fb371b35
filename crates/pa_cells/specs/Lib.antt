pub mod Handles
pub mod Cells
