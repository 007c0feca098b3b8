pub mod Keeping
pub mod Needed
pub mod Uses
