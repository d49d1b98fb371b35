pub mod Telling
pub mod Due
pub mod Beside
pub mod Rising
pub mod Rowing
pub mod Putting
mod Knowing
pub mod Walking
pub mod Going
pub mod Stepping
pub mod Fitting
pub mod Seeking
pub mod Exchanging
pub mod Cutting
