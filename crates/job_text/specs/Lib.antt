pub mod Job
pub mod Answer
pub mod Views
