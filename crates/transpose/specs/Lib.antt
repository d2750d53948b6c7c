pub mod Transpose
pub mod Places
pub mod Views
