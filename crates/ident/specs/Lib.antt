pub mod Ident
pub mod Added
pub mod Numbers
pub mod Name
pub mod Convert
pub mod Reference
