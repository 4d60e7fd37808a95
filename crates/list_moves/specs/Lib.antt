pub mod Planned
pub mod Places
pub mod Moves
pub mod MoveEndLaws
pub mod MoveRowLaws
pub mod MovePlanLaws
