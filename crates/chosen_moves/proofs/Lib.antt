pub mod SayingLemmas
pub mod ReadingLemmas
pub mod TakenMoves
pub mod ChosenMoves
pub mod LentOptions
