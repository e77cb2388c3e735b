mod Climbs
mod ClimbTexts
pub mod LawfulCodecs
pub mod Places
pub mod Ways
pub mod OwnProofs
pub mod Binding
