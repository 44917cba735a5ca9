pub mod Graph
pub mod Ways
pub mod Ties
pub mod Steps
