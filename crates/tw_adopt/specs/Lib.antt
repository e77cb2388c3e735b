pub mod HistoryFronts
pub mod Adopting
pub mod Binding
pub mod Hearing
pub mod Stops
