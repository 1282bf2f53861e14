pub mod CContracts
