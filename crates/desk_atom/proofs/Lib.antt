pub mod Zeros
pub mod Results
