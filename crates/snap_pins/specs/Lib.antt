pub mod Pinned
pub mod PinnedLaws
