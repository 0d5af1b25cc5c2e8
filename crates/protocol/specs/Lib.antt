pub mod Answers
pub mod Bytes
pub mod Counting
pub mod Records
pub mod Text
