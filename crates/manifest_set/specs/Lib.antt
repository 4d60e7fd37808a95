pub mod KeepLaws
pub mod Keeping
pub mod Reading
pub mod ReadingLaws
pub mod Rewriting
pub mod RewritingLaws
pub mod SlotLaws
pub mod Slots
