pub mod Planned
pub mod Found
pub mod MovePlanned
pub mod ReadPlanLaws
pub mod MembersPlanLaws
pub mod MovePlanLaws
