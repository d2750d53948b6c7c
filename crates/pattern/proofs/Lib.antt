pub mod Coming
pub mod Words
pub mod Rows
pub mod Walks
pub mod Counting
pub mod Writing
pub mod Accepted
pub mod Worked
