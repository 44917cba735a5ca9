-- Laws that several proofs cite, and the theorems about the line.
pub mod Laws
pub mod Pieces
pub mod Lengths
