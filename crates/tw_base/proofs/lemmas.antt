-- All lemmas, by the rooms of the definitions that they are about.
pub mod kinds
pub mod format
pub mod events
pub mod history
