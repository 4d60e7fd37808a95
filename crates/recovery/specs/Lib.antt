pub mod BoundLaws
pub mod Bounds
pub mod Logs
pub mod Named
pub mod Recover
pub mod RecoverLaws
pub mod Tables
