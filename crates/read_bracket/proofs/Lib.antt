-- A law that the proof of a reader cites.
pub mod Symbols
