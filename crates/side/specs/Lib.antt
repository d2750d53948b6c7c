pub mod Side
pub mod Check
pub mod Row
pub mod Built
pub mod Views
