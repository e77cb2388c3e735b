pub mod StepLaws
pub mod FileLaws
pub mod CopyLaws
pub mod ReceivedLaws
