pub mod Frames
pub mod Spoken
pub mod Answering
