pub mod Pairwise
pub mod Described
pub mod EnumLaws
pub mod FileTheorems
