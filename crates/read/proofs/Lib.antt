-- Laws that the proofs cite.
pub mod Whole
pub mod Lines
pub mod Never
pub mod One
