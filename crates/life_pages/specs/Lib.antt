pub mod LifeElements
pub mod LifeElementLaws
pub mod PageWalks
pub mod Whole
pub mod WholeLaws
