pub mod StructText
