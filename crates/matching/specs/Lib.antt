pub mod Messages
pub mod Matching
pub mod Answering
