pub mod Keys
pub mod Views
