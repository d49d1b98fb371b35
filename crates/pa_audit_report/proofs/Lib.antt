mod Sizing
mod Counting
mod Tallying
mod Columns
mod Comparing
pub mod Before
