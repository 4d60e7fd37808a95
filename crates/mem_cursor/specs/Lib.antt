pub mod NextRows
pub mod RowsFromLaws
