-- What holds of every promise.
pub mod One
