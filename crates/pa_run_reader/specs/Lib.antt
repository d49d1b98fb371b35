pub mod Reading
pub mod Records
pub mod Roots
pub mod Lines
pub mod Item
pub mod Order
pub mod Gathered
pub mod Faults
