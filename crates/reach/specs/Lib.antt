pub mod Sound
pub mod CallCases
pub mod RefusalTable
pub mod Ends
pub mod Fields
pub mod LowestPlaces
pub mod Completion
pub mod Complete
