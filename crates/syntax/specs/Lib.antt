pub mod Syntax
