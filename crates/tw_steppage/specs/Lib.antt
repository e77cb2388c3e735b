pub mod StepBytes
pub mod StepPages
pub mod Seen
