pub mod ListLives
pub mod ListLifeLaws
pub mod ListRows
pub mod ListIndexLaws
pub mod ListRowLaws
pub mod ListPlans
pub mod ListReadLaws
pub mod ListChangeLaws
