pub mod PieceLaws
pub mod SegmentLaws
pub mod Waits
