pub mod Stored
pub mod Rows
