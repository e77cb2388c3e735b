pub mod EvidenceCodec
pub mod EvidenceSizes
pub mod Verdicts
pub mod Bound
pub mod Accused
pub mod PartReasons
