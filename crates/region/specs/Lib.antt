pub mod Growth
pub mod Views
