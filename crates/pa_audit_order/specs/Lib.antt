pub mod Keyed
pub mod Numbers
pub mod Given
pub mod Looks
pub mod Steps
pub mod Cuts
