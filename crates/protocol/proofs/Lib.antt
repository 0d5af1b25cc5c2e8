pub mod Numbering
pub mod Recording
pub mod Rejoining
pub mod Texting
