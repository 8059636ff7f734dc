pub mod Utf8
pub mod Encode
pub mod Decoding
pub mod Chars
