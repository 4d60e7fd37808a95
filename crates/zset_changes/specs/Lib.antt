pub mod SeenScores
pub mod SeenScoreLaws
pub mod ScoreTables
pub mod ScoreTableLaws
pub mod ScoreRows
pub mod Founds
