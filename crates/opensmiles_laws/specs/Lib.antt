pub mod Molecule
pub mod Stops
pub mod Telling
pub mod Answers
pub mod Departures
