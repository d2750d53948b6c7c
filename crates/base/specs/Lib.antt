pub mod Checks
pub mod Sets
pub mod Lists
