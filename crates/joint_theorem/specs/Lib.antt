pub mod Claim
pub mod Answers
pub mod OnlyOne
pub mod WorkedBytes
