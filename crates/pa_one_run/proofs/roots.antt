pub mod Classes
pub mod Replays
pub mod Asking
pub mod Requests
