pub mod EventPages
pub mod Rules
pub mod StepCodecs
