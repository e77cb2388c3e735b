pub mod Puts
pub mod Moments
pub mod ModelLaws
pub mod KeptCallLaws
pub mod LooseLaws
pub mod Unwinding
pub mod KeptPages
pub mod ReadingLaws
pub mod FoundLaws
pub mod SpelledLaws
pub mod AnswerLaws
mod KeepingLaws
