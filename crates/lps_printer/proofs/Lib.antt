pub mod Fronts
pub mod Cutting
pub mod Numerals
pub mod Spelling
pub mod Exact
pub mod Apart
pub mod Trees
pub mod ReadBack
pub mod SpellBack
pub mod FittingNames
pub mod ProcessSpelling
pub mod CopiedTokens
pub mod CopiedData
pub mod PrintedExamples
pub mod Appending
pub mod SummandsApart
pub mod SummandsBack
pub mod EmptyLists
pub mod SmallNumerals
pub mod TermTexts
pub mod SmallNames
pub mod Lookups
pub mod PrintedTrees
pub mod LinearBack
pub mod SummandTexts
pub mod PrintedSystems
pub mod FilledLinears
pub mod CopiedDeclarations
pub mod DefinitionTexts
pub mod InsideDeclarations
pub mod TextSections
pub mod WholeTexts
pub mod CodeWords
pub mod WordedTerms
pub mod AddingPieces
pub mod Outermosts
pub mod CodeTerms
pub mod NumeralPieces
pub mod CodeForms
mod PendingLemmas
pub mod CodeLists
pub mod CodeSorts
pub mod CodeActions
pub mod CodeNexts
pub mod Truths
pub mod CodeSummands
pub mod CodeDefinitions
mod AddingTokens
mod CopiedTrees
mod CopiedLines
mod AddingSections
pub mod NameTables
pub mod SignatureNames
pub mod NoConstants
pub mod AddedConstants
pub mod NeededConstants
mod UnseenLemmas
pub mod NeededTexts
pub mod ConstantWording
pub mod FittingParts
pub mod PrintedTexts
pub mod NilsAmong
pub mod ConstantNils
mod AddedFunctions
mod AddedActions
mod AddedSections
mod AddedStructs
pub mod PrintedLinears
pub mod PrintedConstants
mod KindTexts
mod SpelledTokens
mod SpelledDataTokens
mod SpelledDeclarationTokens
pub mod CopiedSections
mod SpelledStructs
pub mod SpelledAdditions
mod DeclaredCounts
pub mod GrownTexts
pub mod FreshIdentifiers
pub mod CopiedParts
pub mod GrowingByConstants
pub mod SectionsBehind
pub mod GrownVocabularies
pub mod CopiedWords
pub mod CopiedTheories
pub mod EmptyEquations
pub mod FoundConstants
pub mod NilEquations
pub mod PrintedTheories
pub mod TwoOfLists
pub mod TextItems
pub mod ConstantVocabularies
pub mod KeptDeclarations
pub mod ListedVariables
pub mod PrintedDeclarations
pub mod OwnFunctions
pub mod SortsBack
pub mod VariableNames
pub mod VariableScopes
pub mod WritableLinears
pub mod SameNeeds
pub mod DeclaredActions
pub mod FittingLinears
pub mod CanonicalTexts
pub mod GrownIdentifiers
pub mod EnteredSignatures
pub mod GrownSorts
pub mod GrownStructs
pub mod GrowingByAdditions
pub mod StructVocabularies
pub mod ActionVocabularies
pub mod AddedVocabularies
pub mod ApartAdditions
pub mod DeclaredAdditions
pub mod NamedAdditions
