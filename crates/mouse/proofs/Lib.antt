pub mod TwosComplement
pub mod MovementLaws
