-- Laws that several proofs cite, and the theorems about texts.
pub mod Laws
pub mod Lengths
