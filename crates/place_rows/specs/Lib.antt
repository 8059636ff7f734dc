pub mod PlaceRows
