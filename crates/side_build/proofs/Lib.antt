pub mod Puts
pub mod Adding
pub mod Building
pub mod Sides
