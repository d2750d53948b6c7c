pub mod Prepared
pub mod Steps
pub mod Views
