pub mod Demand
pub mod Cutting
pub mod Run
pub mod Views
