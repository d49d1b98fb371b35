pub mod Chains
pub mod Gaps
