pub mod Filling
pub mod Writing
pub mod Handing
pub mod Sealing
