pub mod Turned
pub mod Words
