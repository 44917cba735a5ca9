pub mod Calls
pub mod Atom
pub mod Events
pub mod Given
pub mod Lines
pub mod Rings
