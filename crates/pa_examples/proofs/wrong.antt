pub mod Again
pub mod Refused
pub mod Astray
