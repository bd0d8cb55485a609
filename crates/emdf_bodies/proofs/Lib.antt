pub mod Place
pub mod Octets
pub mod Calls
