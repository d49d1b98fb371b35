pub mod Turns
pub mod Courses
pub mod Merged
pub mod Telling
pub mod Lines
pub mod Growing
pub mod Gathering
pub mod Example
