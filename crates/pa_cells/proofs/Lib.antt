pub mod Histories
pub mod Starting
