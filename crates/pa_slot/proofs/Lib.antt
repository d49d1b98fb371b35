pub mod Arith
pub mod Links
pub mod Outcomes
pub mod Runs
pub mod Same
