pub mod Inverse
pub mod Lines
pub mod Texts
pub mod Worked
