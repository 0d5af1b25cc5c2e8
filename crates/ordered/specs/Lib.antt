pub mod Filing
pub mod Ranks
pub mod Tables
