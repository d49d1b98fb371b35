mod Allotting
mod Alone
mod Answers
mod Backing
mod Backs
mod Batching
mod Bounds
mod Branches
mod Changing
mod Copies
mod Counting
mod Emptied
mod Empty
pub mod Ended
mod Filled
mod Fills
mod Frees
mod FromRoot
mod Fronting
mod Fronts
mod Giving
pub mod Going
mod GoingBack
mod Grown
mod Handling
mod Homes
mod Issuable
mod Issuing
mod Known
mod Looks
mod Mapped
mod More
mod OneList
pub mod Outcome
pub mod Owning
mod Placing
mod Others
mod Partitions
mod Phasing
mod PurgePlays
mod Purged
mod Purges
mod Purging
mod Puts
mod Putting
mod Quiet
mod Ready
mod Refusing
pub mod Reporting
mod Requests
mod Returned
mod Returning
mod Rows
mod Settling
mod Shaping
pub mod Showing
mod Shows
mod Slots
mod Spilling
pub mod Start
mod Stepping
mod Swaps
mod Tallying
mod Unmaps
mod Weighing
mod Leaving
mod Refilled
pub mod Trace
pub mod Sparse
