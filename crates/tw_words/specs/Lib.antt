pub mod Forms
pub mod Ranges
pub mod Takings
pub mod CommandLine
