pub mod WatchingLaws
pub mod PlacingLaws
pub mod FilteringLaws
pub mod RunLaws
