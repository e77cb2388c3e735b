pub mod Appending
pub mod Counting
pub mod Fronts
pub mod Stored
