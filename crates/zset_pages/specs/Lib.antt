pub mod Ranks
pub mod FrontLaws
pub mod RankLaws
pub mod RankRowLaws
pub mod RankCountLaws
pub mod RankRangeLaws
pub mod RankWalks
