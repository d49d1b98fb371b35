pub mod Order
pub mod First
pub mod Alternating
pub mod Holding
pub mod Held
pub mod Records
pub mod Gone
pub mod Maps
