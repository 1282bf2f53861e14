pub mod FoundLaws
pub mod HidppTakingLaws
