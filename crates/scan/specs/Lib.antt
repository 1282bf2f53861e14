pub mod Scans
pub mod ScanContracts
pub mod Exact
