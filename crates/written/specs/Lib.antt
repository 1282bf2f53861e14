pub mod Building
pub mod Written
