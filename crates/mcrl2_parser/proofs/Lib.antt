pub mod CutSoFar
pub mod Refused
pub mod ReadSoFar
pub mod SingleFaults
pub mod Sorts
pub mod Groups
pub mod ListLeft
pub mod Units
pub mod Operands
pub mod ItemLists
mod Rests
mod GuardLooks
mod ArrowTables
mod LevelBounds
mod ProcessGuards
mod ChainLeft
mod Atoms
mod ProcessChains
mod LeftMerges
mod MultiChains
mod AtOnceLemmas
mod Conditions
pub mod Braces
pub mod Names
pub mod Actions
pub mod Calls
pub mod Operations
pub mod Joins
pub mod ReadableTexts
pub mod LabelLines
pub mod TermTexts
pub mod LastParts
pub mod Exits
pub mod ConstructorCases
pub mod DeclarationCases
pub mod SpelledByDeclarations
pub mod BuiltSections
