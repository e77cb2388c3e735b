pub mod ArchiveFiles
pub mod Facts
pub mod Rules
pub mod Fitting
pub mod Verdicts
pub mod Judged
pub mod Linking
