pub mod DeclarationText
