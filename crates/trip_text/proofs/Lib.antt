-- What is read of a line that a writer made, from its bytes up.
pub mod Passes
pub mod Stands
pub mod Heads
pub mod Marks
pub mod Bodies
pub mod Sense
pub mod Held
pub mod Retold
pub mod Starred
pub mod StarredLine
pub mod Sample
