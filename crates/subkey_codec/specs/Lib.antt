pub mod ElementKeyLaws
pub mod NumberLaws
pub mod Numbers
pub mod OrderLaws
