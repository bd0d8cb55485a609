pub mod Runs
pub mod Plain
pub mod Operations
