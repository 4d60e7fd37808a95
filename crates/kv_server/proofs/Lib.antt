pub mod Talk
pub mod ToldDesk
pub mod Reopened
pub mod Output
pub mod Running
pub mod Serving
pub mod Attending
pub mod ServingAll
