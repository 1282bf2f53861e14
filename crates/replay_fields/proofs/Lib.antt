pub mod Signs
pub mod PartsLaws
