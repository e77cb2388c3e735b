pub mod Descending
pub mod Steps
pub mod Circles
pub mod Opposing
pub mod Short
