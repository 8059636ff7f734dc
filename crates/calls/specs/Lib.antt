pub mod TextCall
pub mod NameCall
