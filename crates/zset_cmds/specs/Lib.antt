pub mod Planned
pub mod PlannedLaws
pub mod ScoreLaws
pub mod CommandLaws
pub mod Taken
pub mod MemberLaws
pub mod TakenLaws
