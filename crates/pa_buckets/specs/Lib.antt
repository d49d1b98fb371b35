pub mod Limits
pub mod Table
pub mod Bands
pub mod Classes
pub mod Rule
pub mod Laws
