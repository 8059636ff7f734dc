pub mod RootRows
pub mod MemberNames
pub mod MemberTheorems
