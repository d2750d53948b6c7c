pub mod Gather
pub mod Plan
pub mod Views
