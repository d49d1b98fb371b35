pub mod Expansion
pub mod Keeping
pub mod Playing
