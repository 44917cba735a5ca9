-- Laws that several proofs cite.
pub mod Table
pub mod Names
pub mod Ranges
pub mod Lists
pub mod Cases
pub mod Every
pub mod AllBelow
pub mod Bonds
