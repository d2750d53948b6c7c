pub mod Accepted
pub mod Built
pub mod Gathering
pub mod Worked
