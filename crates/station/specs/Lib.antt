pub mod Stations
pub mod StationTaking
pub mod StationCalls
pub mod StationContracts
pub mod StationPromises
