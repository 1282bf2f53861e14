pub mod ChoicesLaws
pub mod RadioLaws
pub mod SizesLaws
pub mod TableLaws
