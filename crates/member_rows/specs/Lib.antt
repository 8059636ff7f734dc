pub mod MemberRows
