pub mod DumpLines
