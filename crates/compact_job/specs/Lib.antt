pub mod Flushing
pub mod FlushingLaws
