pub mod Returns
pub mod Unmaps
pub mod CacheRows
pub mod Placing
