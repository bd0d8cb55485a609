pub mod Words
pub mod Compact
pub mod Groups
