pub mod Bits
pub mod Cursor
pub mod Results
pub mod Parts
