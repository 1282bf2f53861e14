pub mod TakenExamples
