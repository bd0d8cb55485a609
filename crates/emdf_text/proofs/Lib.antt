pub mod Text
pub mod Put
pub mod Decimal
mod Examples
