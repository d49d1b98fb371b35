pub mod Events
pub mod Good
pub mod Tables
pub mod Trail
