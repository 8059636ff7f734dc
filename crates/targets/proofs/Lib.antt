pub mod TypeLaws
pub mod TargetTheorem
