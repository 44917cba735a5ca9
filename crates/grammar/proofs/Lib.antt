-- The reader's definition held against the grammar: the claims are in Verdict, Open and Departures, and unique in Reading. What the
-- read call answers is said above, in opensmiles_laws.
pub mod Machine
pub mod Sound
pub mod Table
pub mod Complete
pub mod Reading
pub mod Late
pub mod Chains
pub mod NotSmall
pub mod Here
pub mod Symbols
pub mod Atoms
pub mod Found
pub mod Link
pub mod Depth
pub mod Spelling
pub mod Verdict
pub mod First
pub mod Open
pub mod Departures
