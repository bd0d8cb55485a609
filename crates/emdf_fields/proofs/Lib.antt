pub mod Word
pub mod Answers
pub mod Variable
pub mod Octets
