pub mod Draws
pub mod Line
pub mod Schedules
pub mod Playing
pub mod Summing
pub mod Coming
pub mod Unrefused
pub mod Generating
