pub mod OneofFields
pub mod Named
