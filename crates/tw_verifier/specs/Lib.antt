pub mod Judgements
pub mod Chaining
pub mod Stages
pub mod Verifying
pub mod Seen
