pub mod SeenTexts
pub mod Together
pub mod Worked
pub mod WorkedSeen
