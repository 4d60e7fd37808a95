pub mod JudgedPartLaws
pub mod Judging
pub mod OneBlockingLaws
pub mod OnlyTableLaws
pub mod PlacedLaws
pub mod Placing
pub mod WholeTableLaws
