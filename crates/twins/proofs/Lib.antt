pub mod Twins
pub mod Rising
pub mod Tables
