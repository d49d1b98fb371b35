pub mod Course
pub mod Laws
pub mod Turning
pub mod Played
pub mod Counted
pub mod Going
