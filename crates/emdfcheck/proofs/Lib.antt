pub mod Class
pub mod Records
pub mod Examples
