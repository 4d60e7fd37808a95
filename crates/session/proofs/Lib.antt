pub mod Waiting
pub mod Talks
pub mod Lines
pub mod WithinLimits
pub mod Quitting
pub mod Serving
pub mod Pulling
pub mod Run
