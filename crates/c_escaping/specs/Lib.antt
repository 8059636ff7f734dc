pub mod Unescape
pub mod Unescaping
pub mod Default
pub mod CEscape
pub mod Results
