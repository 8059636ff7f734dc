pub mod ScopeTable
