pub mod Requesting
pub mod RequestContracts
