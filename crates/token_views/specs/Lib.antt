pub mod Views
pub mod ViewsLaws
