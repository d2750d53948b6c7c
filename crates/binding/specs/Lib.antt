pub mod Binding
pub mod Steps
pub mod Views
