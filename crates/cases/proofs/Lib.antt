pub mod PackLaws
pub mod CompareLaws
pub mod LineLaws
pub mod HexLaws
