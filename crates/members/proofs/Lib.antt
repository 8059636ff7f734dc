pub mod MemberLaws
pub mod SumSteps
pub mod SettingLaws
pub mod RangeLaws
pub mod TypeLaws
pub mod OneofLaws
pub mod DeepLaws
mod FindLaws
