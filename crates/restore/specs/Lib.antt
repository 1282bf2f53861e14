pub mod Restoring
pub mod RestoreContracts
