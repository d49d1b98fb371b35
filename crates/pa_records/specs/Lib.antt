pub mod Records
pub mod Rows
pub mod Stored
pub mod Words
