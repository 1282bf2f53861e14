pub mod Lines
pub mod Keeping
