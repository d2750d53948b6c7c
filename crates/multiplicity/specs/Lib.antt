pub mod Multiplicity
pub mod Views
