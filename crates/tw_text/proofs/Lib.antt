pub mod Numerals
pub mod FieldLaws
pub mod NameBytes
pub mod SummaryLaws
