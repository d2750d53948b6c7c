pub mod Pattern
pub mod Steps
pub mod Views
