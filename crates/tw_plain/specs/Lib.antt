pub mod Hashed
pub mod Plain
pub mod Maps
