pub mod Parts
pub mod Numbers
pub mod Fields
pub mod Lines
pub mod Worked
pub mod Inverse
