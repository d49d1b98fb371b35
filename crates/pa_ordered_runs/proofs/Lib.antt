pub mod Pieces
pub mod Steps
pub mod Entered
pub mod Counted
pub mod Leaving
pub mod Contents
pub mod Loads
pub mod Whole
