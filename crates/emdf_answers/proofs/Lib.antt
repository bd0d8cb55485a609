pub mod Form
pub mod Carriers
pub mod Protection
