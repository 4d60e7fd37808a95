pub mod ReadPlans
pub mod ReadPlanLaws
