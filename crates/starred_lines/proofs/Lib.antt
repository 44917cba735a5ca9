-- The claim that covers the table of specs/Rows.
pub mod Bench
