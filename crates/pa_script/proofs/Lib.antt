pub mod Lines
mod Behind
mod Unread
pub mod Texts
pub mod Firsts
pub mod Early
