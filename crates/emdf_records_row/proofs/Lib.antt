pub mod Search
pub mod Numbered
