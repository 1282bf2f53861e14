pub mod FindingLaws
pub mod IndexLaws
pub mod ShareLaws
pub mod OffsetSharesLaws
pub mod ReplayRunLaws
pub mod ReplayExamples
