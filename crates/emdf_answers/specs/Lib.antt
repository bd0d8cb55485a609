pub mod Form
pub mod Bits
pub mod Fields
pub mod Replies
pub mod Carriers
pub mod Verdict
pub mod Edits
