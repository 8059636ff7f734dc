pub mod EnumsFit
