-- What survives writing and rereading, proved.
pub mod Checked
pub mod Shift
pub mod Field
pub mod Fields
pub mod Bracketed
pub mod Organic
pub mod ReadBack
pub mod Somehow
pub mod Length
pub mod Marks
pub mod Inside
pub mod Exactly
pub mod ReadGood
