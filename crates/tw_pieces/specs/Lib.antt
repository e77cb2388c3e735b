pub mod Resuming
pub mod Feeding
pub mod PieceSteps
pub mod Seen
