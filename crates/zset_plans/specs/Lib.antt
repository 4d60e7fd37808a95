pub mod Scorings
pub mod ScoringLaws
pub mod ScoreRowLaws
pub mod ScorePlans
pub mod ScorePlanLaws
