pub mod Putting
pub mod Questions
pub mod Selectors
