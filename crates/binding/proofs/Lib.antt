pub mod Answers
pub mod Seen
pub mod Paired
pub mod Rows
pub mod Sources
pub mod Runs
