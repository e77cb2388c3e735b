pub mod kinds
pub mod format
pub mod events
pub mod history
