pub mod TakenLines
