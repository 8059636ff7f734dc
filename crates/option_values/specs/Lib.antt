pub mod OptionValues
