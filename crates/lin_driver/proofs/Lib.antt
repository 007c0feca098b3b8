mod EqualLinears
mod FilledLinears
mod Links
mod BodyLists
mod OpenedComponents
mod NetworkLeaves
mod TakenNames
mod GrownModels
mod ConstantGrowth
mod StackGrowth
mod StackedForms
mod MethodForms
mod FreshFunctions
mod Identifiers
mod NamedSignatures
mod NamedVariables
mod ProcessNames
mod ColumnNames
mod AddedParts
pub mod Additions
pub mod LinearisedTexts
mod SortedTerms
mod FittingOperators
mod OpenedOperators
mod ProductNames
mod StartedNames
mod NetworkScopes
mod JointLinears
mod TakenColumns
mod StayingLinears
mod ComposedParts
mod ComposedNetworks
mod NetworkLaws
mod MadeLeaves
mod ModelLinears
mod ElaboratedModels
mod ModelsOfTexts
pub mod OneStart
pub mod Refused
mod MadeLinears
mod JudgedTexts
mod ReadingBack
mod MadeNames
pub mod MadeTexts
mod AlikeTypings
mod SameSorts
mod AlikeParts
mod AlikeFaults
mod ApartNames
mod OperandLabels
mod SameShapes
mod UpToRecursion
pub mod AcceptedTexts
mod ReadTexts
mod SomeOf
mod FewerVariables
pub mod RewritableEquations
pub mod LeftTexts
mod EliminatedTexts
mod LeftInCode
mod PlainlyConjoined
mod NeverEnding
pub mod EndedTexts
mod SealedSummands
mod SealedNames
mod SealedConditions
mod SealedPlainly
pub mod UndeclaredActions
mod SealedTexts
mod NeededParts
mod NeededTrees
mod TidiedTrees
mod TidiedSummands
mod TidiedLinears
mod PlainGrowing
mod PlainFilters
mod PlainCommunications
mod PlainProducts
mod PlainBeside
mod PlainStarts
mod PlainSums
mod TidyConditions
mod PlainLeaves
mod PlainNetworks
mod ComposedInstances
mod OpenedWritten
mod PlainModels
mod AddedSorts
mod WrittenPieces
mod SettledNetworks
mod KeptConditions
mod KeptVariables
mod KeptScopes
mod KeptSteps
mod KeptTexts
mod NewTerms
mod NewDerivations
mod NewSteps
mod MatchedNumbers
mod OneVocabulary
mod AmongLists
mod SoundVocabularies
mod GrownNumbers
mod NewTypings
mod NewElaborations
mod NewEquations
mod SameSteps
pub mod OneReading
pub mod EachReading
mod SortedEquations
mod AddedNames
mod EmptyConstants
pub mod ConsistentTexts
