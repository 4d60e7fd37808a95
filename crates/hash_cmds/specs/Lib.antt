pub mod Planned
pub mod Found
pub mod ReadPlanLaws
pub mod FieldsPlanLaws
pub mod FieldPlanLaws
