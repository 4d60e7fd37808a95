pub mod Ends
pub mod EndLaws
pub mod Found
pub mod FoundLaws
pub mod ItemLaws
