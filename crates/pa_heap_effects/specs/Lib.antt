pub mod Deeds
pub mod Pooled
pub mod Laws
pub mod Ops
pub mod Onward
pub mod Shared
