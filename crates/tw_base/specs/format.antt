-- Formats: which bytes spell which value, field by field, and what a reader and a writer of one answer.
pub mod Formats
pub mod Fields
pub mod Codecs
pub mod Seen
pub mod Taking
pub mod PageBytes
