pub mod Limits
pub mod SuperPage
pub mod Pages
pub mod Laws
