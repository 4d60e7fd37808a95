pub mod Combined
pub mod SetListLaws
pub mod CombinedLaws
pub mod Stored
pub mod StoredLaws
