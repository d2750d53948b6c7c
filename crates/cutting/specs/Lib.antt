pub mod Cut
pub mod Steps
pub mod Views
