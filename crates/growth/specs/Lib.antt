pub mod Visits
pub mod Lent
