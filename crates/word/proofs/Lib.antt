pub mod Bits
pub mod Words
pub mod Turns
pub mod Answers
pub mod Worked
