pub mod FullNames
