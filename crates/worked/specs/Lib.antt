pub mod Examples
pub mod Saved
pub mod Worked
