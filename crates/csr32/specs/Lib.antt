pub mod Matrix
pub mod Views
