pub mod PackageTheorems
