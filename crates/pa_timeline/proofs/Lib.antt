pub mod Places
pub mod Having
pub mod Refused
pub mod Left
pub mod Unordered
pub mod Kept
pub mod Outlined
pub mod Ranges
