mod AnsweredCalls
pub mod Threads
pub mod GoingOn
pub mod Wavering
mod ServedRuns
pub mod TreeSizes
mod OtherStores
mod CommandTurns
mod TurnLaws
mod FollowerTurnLaws
mod ActBytes
mod ThreeServices
mod ActLines
