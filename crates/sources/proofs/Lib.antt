pub mod Entries
pub mod Inside
pub mod Rows
pub mod Chosen
pub mod Pairs
pub mod Filled
pub mod Slots
pub mod Counted
