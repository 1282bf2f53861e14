pub mod DumpExamples
