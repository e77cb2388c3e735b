pub mod Shown
pub mod Sizes
pub mod BoundFiles
pub mod BrokenRules
pub mod Conflicts
pub mod Joined
pub mod Judgements
pub mod OneFile
