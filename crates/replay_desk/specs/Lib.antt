pub mod LineAnswers
pub mod DeskContracts
