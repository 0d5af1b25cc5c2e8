pub mod Parsing
pub mod Forming
