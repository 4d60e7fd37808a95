pub mod AnyCursors
pub mod DistinctLaws
pub mod PageWalkLaws
pub mod Shows
pub mod SourceParts
pub mod Sources
pub mod Walk
pub mod WalkLaws
