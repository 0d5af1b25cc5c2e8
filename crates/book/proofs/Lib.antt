pub mod Applied
pub mod Judging
pub mod Listing
pub mod Parsing
pub mod Pieces
pub mod Refiling
pub mod Stepping
pub mod Walking
