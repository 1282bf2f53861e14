pub mod WordsLaws
pub mod PuttingLaws
pub mod EachLaws
pub mod PutDigitsLaws
pub mod TextExamples
pub mod WritingTextLaws
pub mod PairedLaws
