pub mod Judging
pub mod Stuffing
pub mod Writing
pub mod Running
pub mod Saying
pub mod Tripping
