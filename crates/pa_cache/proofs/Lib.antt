pub mod Middle
pub mod Keeping
pub mod Lists
pub mod Calls
