pub mod Blocks
pub mod Closing
pub mod Owning
pub mod Growing
pub mod Accepted
pub mod Bounds
pub mod Worked
