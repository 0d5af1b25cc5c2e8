pub mod Lines
pub mod Bearing
pub mod Held
pub mod Cables
pub mod Tapes
