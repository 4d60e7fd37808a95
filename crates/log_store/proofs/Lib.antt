pub mod Appending
pub mod Carrying
pub mod Replaying
pub mod Paging
