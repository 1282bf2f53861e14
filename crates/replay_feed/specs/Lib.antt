pub mod LongLines
pub mod Turns
pub mod InputContracts
pub mod TurnContracts
