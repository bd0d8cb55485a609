pub mod Octets
pub mod Words
pub mod Ends
