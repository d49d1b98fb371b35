pub mod Sized
pub mod Counts
pub mod Given
pub mod Due
pub mod Known
