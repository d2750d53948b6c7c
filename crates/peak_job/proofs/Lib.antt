pub mod Regions
pub mod Jobs
pub mod Short
