pub mod ArmLaws
pub mod DeepLaws
