-- Laws that the proofs of the write call and the walk order cite.
pub mod Unless
pub mod Tables
pub mod Lengths
pub mod Ends
pub mod Judging
pub mod Calls
pub mod Said
pub mod Plain
pub mod One
pub mod Bound
