pub mod Putting
pub mod Settings
pub mod Written
