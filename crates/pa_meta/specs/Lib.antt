pub mod Meta
pub mod Stores
