pub mod Accepted
pub mod Built
pub mod Worked
pub mod Rows
