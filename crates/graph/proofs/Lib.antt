pub mod Distances
pub mod Networks
pub mod Turns
pub mod Worked
