pub mod Check
pub mod Answers
pub mod Views
