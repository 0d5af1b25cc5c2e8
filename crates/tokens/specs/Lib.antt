pub mod Words
pub mod Numerals
pub mod Bytes
pub mod Names
pub mod Laws
