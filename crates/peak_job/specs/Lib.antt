pub mod Answer
pub mod Steps
pub mod Views
pub mod Asked
