pub mod Framed
pub mod FramedLaws
