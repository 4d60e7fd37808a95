pub mod Cursors
pub mod CursorLaws
pub mod Heads
pub mod HeadLaws
pub mod Merged
pub mod MergedLaws
pub mod Parts
