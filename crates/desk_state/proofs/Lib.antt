-- Laws that the proofs and the crates above cite.
pub mod Counts
pub mod Ends
pub mod Rings
pub mod Turns
pub mod Grown
pub mod Keeps
pub mod Kept
pub mod Links
pub mod Levels
pub mod Ways
pub mod Walks
