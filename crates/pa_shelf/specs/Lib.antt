pub mod Adding
pub mod Counting
pub mod Cutting
pub mod Moving
pub mod Opening
pub mod Shelves
pub mod Taking
