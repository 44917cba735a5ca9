pub mod Line
pub mod Tables
pub mod Pieces
pub mod Steps
pub mod Lent
