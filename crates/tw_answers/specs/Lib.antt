pub mod Roots
pub mod Refusals
pub mod Limits
pub mod Finds
