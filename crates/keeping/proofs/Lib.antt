pub mod DeviceLaws
pub mod ReadingLaws
pub mod LinesLaws
pub mod StoreSizesLaws
pub mod KeepingLaws
pub mod KeepingExamples
pub mod KeptExamples
