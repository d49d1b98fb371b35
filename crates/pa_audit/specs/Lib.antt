pub mod Lined
pub mod Placed
