pub mod Answers
pub mod Codecs
pub mod Limits
pub mod Sizes
