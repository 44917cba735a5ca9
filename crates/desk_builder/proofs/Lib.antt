-- Laws that the proofs and the claims cite.
pub mod Ways
pub mod Start
pub mod Builds
pub mod Held
pub mod Answers
pub mod Bench
pub mod Again
