pub mod Words
pub mod Putting
pub mod Texts
