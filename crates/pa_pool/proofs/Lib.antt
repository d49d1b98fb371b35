pub mod Gave
pub mod NextPool
pub mod RawBytes
pub mod Runs
pub mod Took
