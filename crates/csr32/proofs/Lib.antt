pub mod Finite
pub mod Matrix
pub mod Worked
