pub mod Layout
pub mod Runs
pub mod Answers
pub mod Views
