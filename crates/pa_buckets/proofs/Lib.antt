pub mod Tests
pub mod Facts
pub mod SpanRule
pub mod Points
pub mod Dense
