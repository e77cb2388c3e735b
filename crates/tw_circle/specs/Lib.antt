pub mod Rings
pub mod Opposed
