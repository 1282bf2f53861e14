pub mod Blocks
pub mod Decoding
pub mod Encoding
pub mod Rows
pub mod EncodedRuns
pub mod Demand3
pub mod EncodedContracts
