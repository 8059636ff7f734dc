pub mod MessageGraph
pub mod Context
pub mod Given
