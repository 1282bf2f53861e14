pub mod Padding
pub mod Dirty
pub mod DjTaking
pub mod DjContracts
