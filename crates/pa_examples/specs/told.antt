pub mod AllSaid
pub mod Entered
pub mod Maps
pub mod OneThread
pub mod OtherReads
pub mod Purge
pub mod Threads
pub mod Worked
