pub mod Events
pub mod Parse
pub mod Steps
