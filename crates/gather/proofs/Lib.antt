pub mod Plans
pub mod Worked
