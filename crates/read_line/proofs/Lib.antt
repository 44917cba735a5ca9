-- Laws that several proofs cite.

pub mod Bodies
pub mod Counts
pub mod Turn
