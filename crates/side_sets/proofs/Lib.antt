pub mod Growing
pub mod Taking
pub mod Merging
pub mod Rows
