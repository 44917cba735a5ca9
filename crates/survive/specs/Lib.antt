pub mod Survive
