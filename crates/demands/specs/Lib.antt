pub mod WithoutStation
pub mod ProgramSearches
pub mod Demands
