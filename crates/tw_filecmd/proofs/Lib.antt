pub mod SameNames
pub mod AnchorFronts
pub mod FormatFronts
pub mod ProofFronts
pub mod FedPieces
pub mod Judging
pub mod PartFiles
pub mod Histories
