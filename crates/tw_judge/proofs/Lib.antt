mod BadLines
pub mod OneReceiver
mod PlainVerdicts
mod PlainMapVerdicts
