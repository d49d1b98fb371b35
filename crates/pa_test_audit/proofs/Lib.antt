pub mod OneHome
pub mod Shortness
