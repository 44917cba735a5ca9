-- Definitions that the contracts cite.
pub mod Standing
pub mod Steps
