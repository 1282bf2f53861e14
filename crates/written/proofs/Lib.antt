pub mod BuildingLaws
pub mod WrittenLaws
pub mod WrittenExamples
