pub mod Timeline
pub mod Worked
pub mod WorkedReads
