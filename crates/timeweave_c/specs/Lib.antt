pub mod Buffers
pub mod Answers
