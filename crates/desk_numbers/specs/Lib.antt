-- Definitions that the contracts cite.
pub mod Numbers
pub mod Said
