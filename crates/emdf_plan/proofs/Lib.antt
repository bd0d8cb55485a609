pub mod Walked
pub mod Opening
pub mod Cutting
pub mod Asking
pub mod Spliced
