pub mod Queueing
mod Zero
mod Fits
mod Same
mod Worked
mod Weighing
pub mod RowKinds
pub mod Listed
mod Rows
pub mod Flowing
mod Passing
mod Holding
mod Cut
pub mod Waits
