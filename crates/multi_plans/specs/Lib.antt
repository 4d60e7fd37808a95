pub mod Growing
pub mod GrowingLaws
