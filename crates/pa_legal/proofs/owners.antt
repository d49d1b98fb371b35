pub mod Below
pub mod Putting
pub mod Giving
pub mod Ways
pub mod Using
pub mod Falling
pub mod Bit
