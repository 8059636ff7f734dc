pub mod FormLaws
pub mod BestLaws
pub mod MatchLaws
mod FoundLaws
