pub mod Encoded
pub mod Fitting
pub mod RegularStates
pub mod Starting
pub mod ColumnTrees
pub mod MeantTrees
pub mod GoodOver
pub mod Made
pub mod EncodedSummands
pub mod LaidOutColumns
pub mod NewColumns
pub mod FoundKinds
pub mod FirstTerms
pub mod InhabitedColumns
pub mod ServingLayouts
pub mod LaidOutForms
pub mod LayingOut
mod Refused
mod EncodedEquations
pub mod FormsInPlace
pub mod SortedTrees
mod EncodedForms
pub mod OneEquation
pub mod KeptEquation
pub mod PlainTerms
pub mod EncodedPlainly
pub mod PlainGrowth
