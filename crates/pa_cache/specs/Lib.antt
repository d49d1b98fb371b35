pub mod Caches
pub mod Chained
