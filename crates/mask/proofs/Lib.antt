pub mod Masks
pub mod Shape
pub mod Stores
pub mod Passes
pub mod Nexts
pub mod Worked
