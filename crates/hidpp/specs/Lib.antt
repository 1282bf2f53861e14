pub mod HidppRecords
pub mod HidppTaking
pub mod HidppContracts
