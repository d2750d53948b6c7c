pub mod Repeated
pub mod Held
pub mod Views
pub mod Lent
