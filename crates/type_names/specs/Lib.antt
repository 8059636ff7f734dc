pub mod Fronts
pub mod Chains
pub mod LookUp
pub mod RowSums
