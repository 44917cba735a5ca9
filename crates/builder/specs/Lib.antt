pub mod Rings
pub mod State
pub mod Build
pub mod Steps
