pub mod Repeating
pub mod Rewriting
pub mod Holding
