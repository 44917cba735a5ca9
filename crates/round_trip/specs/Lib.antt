pub mod RoundTrip
pub mod ByOrder
pub mod Answers
pub mod Steps
