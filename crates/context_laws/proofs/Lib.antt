pub mod Links
pub mod Rows
pub mod Boxed
pub mod Every
pub mod Derived
