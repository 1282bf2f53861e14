pub mod Movement
pub mod MouseContracts
