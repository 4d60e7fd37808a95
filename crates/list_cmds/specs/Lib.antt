pub mod Planned
pub mod ChangeParts
pub mod ReadPlanLaws
pub mod PushPlanLaws
pub mod PopPlanLaws
pub mod SetPlanLaws
pub mod TrimPlanLaws
