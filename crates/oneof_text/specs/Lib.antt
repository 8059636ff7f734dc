pub mod OneofText
