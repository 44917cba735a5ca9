pub mod Write
pub mod Order
pub mod Steps
pub mod Plain
pub mod Numbers
pub mod Bound
