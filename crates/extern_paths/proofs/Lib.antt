pub mod ByLaws
pub mod TakerLaws
pub mod Taken
