pub mod DemandsLaws
pub mod DemandsExamples
