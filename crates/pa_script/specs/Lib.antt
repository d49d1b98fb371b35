pub mod Grammar
pub mod Limits
pub mod Faults
pub mod Reading
pub mod Unread
