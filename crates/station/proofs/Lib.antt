pub mod StationsLaws
pub mod StationTakingLaws
pub mod StationCallsLaws
