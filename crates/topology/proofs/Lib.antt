pub mod Bytes
pub mod Ratios
