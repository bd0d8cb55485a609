pub mod Types
pub mod Bits
pub mod Cursor
