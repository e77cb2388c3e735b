pub mod Published
pub mod Runs
pub mod TreeSizes
pub mod Publishing
pub mod Turns
pub mod Acknowledged
pub mod FollowerTurns
pub mod ScheduledLines
