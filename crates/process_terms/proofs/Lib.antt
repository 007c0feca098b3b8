pub mod AgreeingLabels
pub mod EntryLemmas
pub mod MeaningLemmas
pub mod OperatorLemmas
pub mod PermutedLists
pub mod SmallSteps
pub mod UnknownData
