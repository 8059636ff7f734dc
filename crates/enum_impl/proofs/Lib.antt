pub mod ImplLaws
