pub mod CommandLine
pub mod Options
pub mod Commands
pub mod WordLaws
pub mod LineTexts
