pub mod MatchingLaws
pub mod AnsweringLaws
