-- Structs, constants and the action `Terminate` that a text doesn't declare may be added to it.
use Rattle.std.specs.Prelude.{◌≡◌, ◌⊎◌, List, [], ◌∷◌}
use Rattle.std.specs.List.{All, Contains}
use Rattle.data_theory.specs.declared.ids.FunId.{FunId}
use Rattle.data_theory.specs.declared.ids.NameId.{NameId}
use Rattle.data_theory.specs.Signature.{Sig, IsTaken}
use Rattle.data_theory.specs.WholeSignatures.{IsSignature}
use Rattle.mcrl2_syntax.specs.Declarations.{PlainSpec}
use Rattle.sort_table.specs.BareDeclarations.{bare_sections, declarations_in}
use Rattle.sort_table.specs.Expressions.{Name}
use Rattle.sort_table.specs.Identifiers.{copied_identifiers}
use Rattle.sort_table.specs.SignatureVocabularies.{text_under, vocabulary_of}
use Rattle.sort_table.specs.SortMeanings.{under_names}
use Rattle.sort_table.specs.Vocabularies.{IsVocabularyOf}
use Rattle.bisim_laws.specs.Terminations.{terminate_name}
use Rattle.lps_printer.specs.AddedDeclarations.{added_functions, constants_among, added_declared}
use Rattle.lps_printer.specs.GrowingByAdditions.{GrowsByAdditions, added_actions}
use Rattle.lps_printer.specs.SignatureNames.{text_names_under}
use Rattle.lin_driver.specs.AddedParts.{MayBeAdded}
use Rattle.lin_driver.specs.declared.ending.Ending.{Ending}
use Rattle.lin_driver.specs.declared.ending.Ending.TheVariants.{End, Terminate}

-- the actions that were added: none, or with `Terminate` one that has this name
abbrev pub AreTerminate : Ending → Sig → List NameId → Type 0
AreTerminate End h ns = ns ≡ []
AreTerminate Terminate h ns = (ns ≡ []) ⊎ ((n : NameId) × (ns ≡ n ∷ []) × (text_under h n ≡ terminate_name))

-- The signature g has what the text declares, all identifiers that are copied are taken in it, and h has structs, constants and perhaps the action `Terminate`
-- more. The constants for empty lists are among these.
abbrev pub AdditionsMayBeAdded : Type 0
AdditionsMayBeAdded =
    (ending : Ending) (spec : PlainSpec) (g h : Sig) (x : Name) (empty_lists : List FunId) → IsSignature g → IsVocabularyOf (under_names (declarations_in (bare_sections spec))) (vocabulary_of g)
    → ((t : Name) → Contains (copied_identifiers spec) t → IsTaken g t) → (w : GrowsByAdditions g h) → AreTerminate ending h (added_actions w) → All (Contains (constants_among h (added_functions spec h))) empty_lists
    → MayBeAdded ending spec (added_declared spec h (text_names_under h x) empty_lists)
