pub mod Judge
pub mod Room
