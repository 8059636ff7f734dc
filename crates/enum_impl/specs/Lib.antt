pub mod ImplText
