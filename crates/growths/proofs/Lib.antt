pub mod Runs
pub mod Grounds
pub mod Growing
