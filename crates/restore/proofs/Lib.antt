pub mod RestoringLaws
pub mod RestoredLaws
pub mod OffsetRestoringLaws
