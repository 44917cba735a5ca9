-- Definitions that the contracts cite.
pub mod Events
pub mod Build
pub mod Runs
