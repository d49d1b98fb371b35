pub mod Input
pub mod Judged
pub mod Cutting
