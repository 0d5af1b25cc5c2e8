pub mod Reading
pub mod Putting
pub mod Grouping
pub mod Sizing
pub mod Writing
pub mod Examples
