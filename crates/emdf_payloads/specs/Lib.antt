pub mod Payloads
pub mod Compact
