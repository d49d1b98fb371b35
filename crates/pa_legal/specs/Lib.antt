pub mod Turns
pub mod Flows
pub mod Numbers
pub mod Kinds
pub mod Known
pub mod Tallies
pub mod Owners
