pub mod Played
pub mod Player
