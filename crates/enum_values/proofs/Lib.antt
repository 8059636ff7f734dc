pub mod KeptLaws
mod FindLaws
