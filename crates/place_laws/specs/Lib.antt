pub mod RowTexts
pub mod HeldPlaces
pub mod PlaceCount
pub mod PlaceTheorems
