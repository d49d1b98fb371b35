pub mod Act
pub mod Lists
