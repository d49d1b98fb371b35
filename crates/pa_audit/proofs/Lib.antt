pub mod Lining
pub mod Placing
pub mod Telling
pub mod Granted
pub mod Alike
