pub mod Reads
pub mod ReadLaws
pub mod SegmentLaws
pub mod Segments
