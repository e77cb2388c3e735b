pub mod Openings
pub mod Paths
pub mod Codecs
pub mod Existence
pub mod Spelling
pub mod HistoryProofs
pub mod Acceptance
pub mod Seen
