pub mod Report
pub mod State
pub mod Steps
