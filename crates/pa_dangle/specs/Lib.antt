pub mod Uses
pub mod Worked
pub mod Origins
pub mod Pairs
pub mod Ways
pub mod Steps
pub mod Collected
pub mod Text
