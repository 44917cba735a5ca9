-- Laws that the proofs cite.
pub mod Entries
pub mod Told
pub mod Ties
