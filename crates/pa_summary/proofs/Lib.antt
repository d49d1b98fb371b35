mod Names
mod Counted
mod Summed
