pub mod Files
pub mod Asked
pub mod TakenBytes
pub mod Memory
