pub mod ReplayTurnLaws
pub mod ReplayTurnExamples
