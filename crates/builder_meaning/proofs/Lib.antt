-- What sketches and tables have in common, from the rows of entries up to a whole text.
pub mod Rows
pub mod Twins
pub mod Same
pub mod Parts
pub mod RingNumbers
pub mod Steps
pub mod Joins
pub mod Run
pub mod Tables
pub mod Finish
pub mod Events
pub mod Ends
pub mod Text
pub mod Bench
