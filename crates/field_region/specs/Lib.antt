pub mod Closure
pub mod Owners
pub mod Growth
pub mod Views
