pub mod MetaKeyLaws
pub mod Metas
