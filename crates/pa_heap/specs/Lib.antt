pub mod Accounts
pub mod Closing
pub mod Stopping
pub mod Waiting
pub mod Leaving
