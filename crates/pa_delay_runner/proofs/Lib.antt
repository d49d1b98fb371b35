pub mod Leading
pub mod Reporting
pub mod Telling
pub mod Resting
mod Beside
mod Turned
mod Counting
mod Printing
mod Closing
mod TurnLines
mod NextTurn
mod PhaseReports
mod Heard
mod OpTurn
mod HeadTurn
mod LineSteps
mod Opening
mod AsPlayed
