-- Laws that several proofs cite.
pub mod Joins
pub mod Passes
pub mod Whole
pub mod Degrees
pub mod Order
pub mod FirstOpens
pub mod Laws
