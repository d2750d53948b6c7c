pub mod Codes
pub mod Layouts
pub mod Fields
pub mod Worked
