pub mod Choices
pub mod TakenMoves
pub mod ChosenMoves
