pub mod Records
pub mod Zeros
pub mod Limits
pub mod Starts
pub mod Steps
