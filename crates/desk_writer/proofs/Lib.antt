pub mod Stands
pub mod WriterKept
pub mod Results
pub mod Again
pub mod OnPieces
