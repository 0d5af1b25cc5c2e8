pub mod Spelling
pub mod Wording
pub mod Pairing
pub mod Naming
pub mod Lawful
