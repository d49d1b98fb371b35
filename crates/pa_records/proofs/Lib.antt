pub mod Decoding
pub mod Having
pub mod Keeping
pub mod Neighbours
mod Rows
pub mod Storing
pub mod Words
