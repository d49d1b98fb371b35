mod Adding
mod Batches
mod Chained
pub mod Counting
pub mod CutOut
mod Cutting
mod Decommitting
mod Finding
mod Fitting
mod Fresh
mod Mapping
mod Moves
mod Oldest
pub mod OneTake
mod Opening
mod Provisioning
mod Pushing
mod Returning
pub mod Rewriting
mod Seats
pub mod Settling
pub mod Starting
pub mod Staying
mod Sums
mod Taking
mod Tops
mod Totals
