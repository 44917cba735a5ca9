pub mod PoolKept
pub mod Results
pub mod Again
pub mod Calls
