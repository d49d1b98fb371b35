pub mod Counts
pub mod Cuts
pub mod Rows
pub mod Threads
pub mod Flowing
