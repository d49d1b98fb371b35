pub mod Shown
pub mod Known
pub mod Turns
pub mod Laws
pub mod Worked
