pub mod Sources
pub mod Steps
pub mod Slots
pub mod Views
