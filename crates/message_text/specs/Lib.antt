pub mod MessageText
