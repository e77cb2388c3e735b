pub mod Words
pub mod Lines
pub mod Refusals
pub mod Faults
pub mod Reports
pub mod Summaries
