pub mod StructFields
