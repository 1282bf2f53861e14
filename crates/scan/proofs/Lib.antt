pub mod ScansLaws
pub mod ExactLaws
pub mod OffsetScans
pub mod OffsetScansLaws
