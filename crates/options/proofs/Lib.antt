pub mod RowsLaws
pub mod FindLaws
pub mod KindLaws
pub mod LayoutLaws
