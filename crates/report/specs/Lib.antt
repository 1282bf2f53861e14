pub mod Refusals
pub mod Ports
pub mod Sizes
pub mod Radio
pub mod Reading
pub mod ReportContracts
