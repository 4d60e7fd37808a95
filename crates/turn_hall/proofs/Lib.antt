pub mod Logs
pub mod Fits
pub mod Moves
pub mod Calls
pub mod Turns
