mod AllTold
pub mod Input
mod Going
mod Owned
mod Finished
