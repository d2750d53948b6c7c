pub mod Takes
pub mod Settles
pub mod Visits
pub mod Expansion
pub mod Growing
pub mod Lent
