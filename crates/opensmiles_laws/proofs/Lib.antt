-- The read call's answers held to the grammar.
pub mod Held
pub mod Joined
pub mod Marks
pub mod Steps
pub mod Trace
pub mod Room
pub mod Deep
pub mod ReadsAs
pub mod Telling
pub mod Spoken
pub mod Laws
pub mod Parens
pub mod Meant
pub mod Samples
pub mod Otherwise
