pub mod MapFiles
pub mod Bounds
pub mod Checking
pub mod Binding
pub mod OwnFiles
pub mod Texts
pub mod Seen
