-- Words of citations.
pub mod Cites
pub mod Kept
pub mod Names
pub mod Threads
pub mod Reach
