pub mod Ordering
pub mod Tabling
