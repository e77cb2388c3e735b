pub mod Evidence
pub mod Forks
pub mod Binding
pub mod Accusing
pub mod Texts
pub mod Seen
