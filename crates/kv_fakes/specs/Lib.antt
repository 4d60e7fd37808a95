pub mod Tally
pub mod Source
pub mod Sink
pub mod Past
pub mod Crash
pub mod ImageLaws
pub mod Content
pub mod MemDisk
