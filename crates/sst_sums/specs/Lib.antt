pub mod OkLaws
pub mod SumLaws
pub mod Summing
pub mod SummingLaws
