pub mod StoresLaws
pub mod StoresExamples
