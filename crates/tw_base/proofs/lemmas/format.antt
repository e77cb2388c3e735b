-- Lemmas about formats, codecs, readers and writers.
pub mod FormatLaws
pub mod NumberLaws
pub mod FieldLaws
pub mod Flags
pub mod CodecLaws
pub mod CodecSizes
pub mod TakeLaws
pub mod PutLaws
pub mod PageLaws
