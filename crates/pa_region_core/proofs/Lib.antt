pub mod Passing
pub mod Giving
pub mod Taking
pub mod Actors
pub mod Aside
pub mod Runs
