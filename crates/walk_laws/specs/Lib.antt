pub mod Trek
pub mod Steps
pub mod Plain
pub mod OneWalk
