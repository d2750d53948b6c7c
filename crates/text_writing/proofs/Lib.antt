pub mod Digits
pub mod Lists
