pub mod Lines
pub mod BadTraces
pub mod BadChoices
pub mod BadTerms
pub mod Stops
