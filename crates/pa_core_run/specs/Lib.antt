pub mod Playing
pub mod Ledger
pub mod Standing
pub mod Fronts
pub mod Moves
pub mod Laws
