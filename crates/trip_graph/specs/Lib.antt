pub mod Renumber
pub mod Renumbered
pub mod Opened
pub mod Marks
pub mod Walked
pub mod Steps
