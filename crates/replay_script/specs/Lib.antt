pub mod ReplayRuns
pub mod Shares
pub mod Finding
pub mod ScriptContracts
