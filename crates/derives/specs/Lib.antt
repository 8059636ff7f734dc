pub mod Rules
pub mod Can
pub mod RuleLaws
pub mod Depth
pub mod Memo
