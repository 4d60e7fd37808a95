pub mod Folder
pub mod Input
pub mod Output
pub mod Path
pub mod RealLog
