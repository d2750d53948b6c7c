pub mod Sets
pub mod Merge
