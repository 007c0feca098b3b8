pub mod Simplified
pub mod Constants
pub mod Eliminating
pub mod Putting
pub mod Runs
pub mod Rounds
pub mod ConstantLaws
