pub mod Loops
pub mod Storing
