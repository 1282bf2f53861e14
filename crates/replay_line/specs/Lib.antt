pub mod LineWords
pub mod LineValues
pub mod LineFields
pub mod Commands
pub mod LineCalls
pub mod LineContracts
