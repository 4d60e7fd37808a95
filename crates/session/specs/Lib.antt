pub mod Answer
pub mod Talk
pub mod Quits
pub mod QuitLaws
pub mod Serving
pub mod Session
pub mod Input
pub mod InputLaws
