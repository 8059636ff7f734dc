pub mod DeclarationLaws
