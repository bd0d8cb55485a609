pub mod Carriers
pub mod Equality
