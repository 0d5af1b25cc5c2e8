pub mod Causes
pub mod Reads
pub mod Writes
pub mod Numbers
pub mod Steps
pub mod Laws
