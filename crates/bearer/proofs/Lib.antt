pub mod Rings
pub mod Tapes
