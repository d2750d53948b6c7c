pub mod Bits
pub mod Bools
pub mod Checks
pub mod Lists
pub mod Sets
pub mod Joins
pub mod Placed
pub mod Passes
