pub mod Exchanges
pub mod Handles
pub mod Makers
pub mod Rows
