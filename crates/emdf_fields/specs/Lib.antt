pub mod Word
pub mod Fields
