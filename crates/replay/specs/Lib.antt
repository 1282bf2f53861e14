pub mod ReplayTurns
