pub mod PaddingLaws
pub mod PaddingPassedLaws
pub mod DirtyLaws
pub mod DjTakingLaws
