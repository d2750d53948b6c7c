pub mod Statistics
pub mod Answers
pub mod Views
