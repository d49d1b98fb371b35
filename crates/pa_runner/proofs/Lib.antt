mod Opened
pub mod Summed
pub mod Reported
pub mod Tracing
mod PlayedLines
mod MergedRecords
mod Gathered
mod Behind
mod Passing
mod Coursing
pub mod Counted
pub mod Printing
pub mod Gone
mod Closing
mod Placed
pub mod ReportLines
mod PhaseSteps
