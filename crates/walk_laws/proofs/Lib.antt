-- What holds of a whole walk, from one turn up.
pub mod Moves
pub mod Sums
pub mod Sound
pub mod Written
pub mod Fits
pub mod Accepted
pub mod Bound
pub mod Ended
pub mod Judged
pub mod Longer
pub mod PlainLines
pub mod Numbers
pub mod RingLines
pub mod Plain
