pub mod Sorting
pub mod Cuts
