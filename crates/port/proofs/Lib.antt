pub mod SearchingLaws
pub mod SearchingExamples
pub mod MapLaws
pub mod SumLaws
pub mod TicksLaws
pub mod WaitingLaws
