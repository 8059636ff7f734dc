pub mod WellFormedLaws
pub mod NamesLaws
pub mod SyntaxLaws
pub mod TypeLaws
pub mod AppendLaws
pub mod LengthLaws
