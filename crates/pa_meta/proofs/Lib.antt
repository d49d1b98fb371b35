pub mod Spans
pub mod Writing
