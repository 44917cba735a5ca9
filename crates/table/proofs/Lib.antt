-- Laws that several proofs cite.
pub mod Zeros
pub mod Stores
pub mod Rooms
pub mod EntryStarts
