pub mod Stored
pub mod Run
pub mod Fitting
pub mod Plain
