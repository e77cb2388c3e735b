-- Lemmas about bytes, lists, names, digests, and texts that clash.
pub mod ListLemmas
pub mod ByteLemmas
pub mod Joined
pub mod Sizes
pub mod Naming
pub mod DigestBytes
pub mod Levels
pub mod TextFields
pub mod Clashes
pub mod ClashPairs
pub mod HandedTexts
