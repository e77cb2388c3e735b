pub mod TreeMeaning
pub mod Inserting
pub mod Proving
