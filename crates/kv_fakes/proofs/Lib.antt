pub mod Pieces
pub mod Files
pub mod Outcomes
pub mod Pushed
pub mod Kept
pub mod Calls
