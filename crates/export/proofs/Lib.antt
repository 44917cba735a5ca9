-- Laws that the proofs cite.
pub mod Reports
pub mod One
pub mod Stood
