pub mod worked
pub mod wrong
pub mod told
pub mod FirstVersion
pub mod Plain
