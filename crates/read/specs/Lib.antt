pub mod Read
pub mod Line
pub mod Numbers
pub mod Steps
