pub mod Lined
pub mod Cutting
pub mod Parting
pub mod Early
pub mod Passing
pub mod Counting
pub mod Failing
pub mod Together
