pub mod Regions
pub mod Adds
pub mod Tallies
pub mod Counts
pub mod Pairs
pub mod Worked
