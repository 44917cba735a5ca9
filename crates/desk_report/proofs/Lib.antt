-- Laws that the proofs cite.
pub mod Again
pub mod Laid
