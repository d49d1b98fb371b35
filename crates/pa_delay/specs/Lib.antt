pub mod Queue
pub mod Delayed
pub mod Runs
pub mod Laws
pub mod Worked
