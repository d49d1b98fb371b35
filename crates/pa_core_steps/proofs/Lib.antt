pub mod Joining
pub mod Pieces
pub mod Exchanging
pub mod Possible
pub mod Turning
pub mod Freeing
pub mod Handling
pub mod Storing
