pub mod Forbidden
pub mod Writing
pub mod FrameContracts
