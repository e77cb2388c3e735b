pub mod ByteLaws
pub mod PageLaws
pub mod FileLaws
pub mod WriteLaws
pub mod ReadLaws
pub mod DiskLaws
pub mod StepLaws
