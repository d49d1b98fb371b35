pub mod CacheRows
pub mod CellSlots
pub mod ChainRows
pub mod PoolParts
pub mod Sharing
