pub mod Marks
pub mod Fronts
pub mod Found
pub mod Reading
