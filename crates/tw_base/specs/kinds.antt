-- What every other room speaks of: bytes, lists, names, digests, the texts that are hashed and when two of them clash, levels.
pub mod Bytes
pub mod Lists
pub mod Names
pub mod Digests
pub mod Texts
pub mod Clash
pub mod Weak
pub mod HasherSteps
pub mod Handing
pub mod Levels
pub mod Faults
pub mod PlannedFailures
