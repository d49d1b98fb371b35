pub mod Turned
pub mod Reading
pub mod Whole
