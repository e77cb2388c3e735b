-- Lemmas about the tree of events and its paths.
pub mod EventTrees
pub mod AuditPaths
pub mod Upwards
pub mod SideSteps
pub mod AuditShown
pub mod WorkedEvents
