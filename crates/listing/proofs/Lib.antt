pub mod ListingLaws
pub mod ListingExamples
