pub mod Count
pub mod Holdings
pub mod Kinds
pub mod Links
pub mod Run
pub mod Runs
pub mod Titles
