pub mod Ways
pub mod Away
pub mod Standing
pub mod Listing
pub mod Numbering
pub mod Once
pub mod NextNumbers
pub mod Numbers
