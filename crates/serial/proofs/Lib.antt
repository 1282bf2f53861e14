pub mod SerialLaws
pub mod GivingLaws
