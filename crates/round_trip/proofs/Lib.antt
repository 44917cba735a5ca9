-- What a walk says is said in order and can be spelled, and so what is read of its line is the graph renumbered.
pub mod Ordered
pub mod Spelling
pub mod Law
pub mod ByOrder
pub mod Wider
pub mod Bare
pub mod Deep
pub mod Answers
pub mod AnyKinds
pub mod Lines
pub mod RoundTrip
pub mod Sample
