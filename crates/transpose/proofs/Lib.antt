pub mod Counts
pub mod Places
pub mod Transposed
