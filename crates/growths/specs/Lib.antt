pub mod Runs
pub mod Counts
pub mod Solid
pub mod Views
