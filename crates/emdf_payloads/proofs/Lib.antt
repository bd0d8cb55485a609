pub mod Answers
pub mod Turns
pub mod Walk
pub mod Compact
