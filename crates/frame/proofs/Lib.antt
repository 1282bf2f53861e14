pub mod FillLaws
pub mod FillingLaws
pub mod WritingLaws
