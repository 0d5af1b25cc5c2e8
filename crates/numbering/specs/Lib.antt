pub mod Exactly
pub mod Numbered
pub mod Parameters
