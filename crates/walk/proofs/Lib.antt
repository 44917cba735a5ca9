-- Laws that the proofs of the walk's functions cite.
pub mod Moves
pub mod Place
pub mod Onto
pub mod Going
