pub mod EventLimits
pub mod RootLaws
pub mod TableAnswers
pub mod TreeAnswers
pub mod FoundAnswers
pub mod HandedOn
