pub mod Pick
pub mod Every
pub mod Text
pub mod Names
pub mod Kinds
pub mod Bonds
pub mod Steps
