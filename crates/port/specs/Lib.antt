pub mod Records
pub mod Places
pub mod Searching
pub mod Ticks
pub mod Waiting
pub mod Answers
pub mod PortContracts
