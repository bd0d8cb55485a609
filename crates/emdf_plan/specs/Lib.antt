pub mod Types
pub mod Plan
pub mod Walking
