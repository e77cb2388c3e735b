pub mod JoinedParts
pub mod JoinedHops
pub mod JoinedTops
pub mod JoinedSpelling
pub mod JoinedAccepted
pub mod JoinedFronts
pub mod JoinedOwn
