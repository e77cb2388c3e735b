pub mod Commands
pub mod Words
mod AskedRuns
pub mod Endings
pub mod ToldFiles
pub mod ToldMaps
mod ToldRuns
pub mod JudgedRuns
pub mod JudgedReach
pub mod PlayedFiles
pub mod MapRuns
pub mod Audits
pub mod OneReason
pub mod OneFamily
pub mod OneAdoption
pub mod OneAtlas
pub mod OneFork
pub mod OneMap
pub mod OneAnswer
pub mod AuditsFound
pub mod Adoptions
pub mod Completeness
mod PlainWords
mod PlainRuns
mod PlainMapRuns
mod PlainAdoptions
