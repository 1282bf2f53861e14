pub mod Serials
pub mod SerialContracts
pub mod Giving
