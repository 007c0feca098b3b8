-- The text that is printed for a linear process.
use Rattle.std.specs.Prelude.{◌≡◌, ℕ, true, List, [], ◌++◌, map, length, Option}
use Rattle.data_theory.specs.declared.ids.FunId.{FunId}
use Rattle.data_theory.specs.declared.ids.NameId.{NameId}
use Rattle.data_theory.specs.declared.ids.SortId.{SortId}
use Rattle.data_theory.specs.Structs.{numbers_from}
use Rattle.data_theory.specs.Terms.{Sort, list}
use Rattle.data_theory.specs.Signature.{Sig}
use Rattle.data_theory.specs.IdTerms.{sort_under}
use Rattle.data_theory.specs.IdTrees.{Tree}
use Rattle.mcrl2_syntax.specs.Declarations.{PlainSpec}
use Rattle.process_terms.specs.SignatureEntries.{entries_of}
use Rattle.lps_core.specs.PlainLinears.{PlainLinear, linear_of, initial_of}
use Rattle.sort_table.specs.Expressions.{Name}
use Rattle.sort_table.specs.SignatureVocabularies.{text_under}
use Rattle.lps_printer.specs.TextWordings.{IsTextWordedBy}
use Rattle.lps_printer.specs.FilledLinears.{Constants, filled_linear, filled_terms}
use Rattle.lps_printer.specs.SignatureNames.{once_functions, once_actions, text_names_under}
use Rattle.lps_printer.specs.TextSections.{sections_text}
use Rattle.lps_printer.specs.WholeTexts.{linear_sections}
use Rattle.lps_printer.specs.CopiedSections.{copied_sections}
use Rattle.lps_printer.specs.AddedDeclarations.{added_sections}
use Rattle.lps_printer.specs.AddedConstants.{AddsConstants, AreConstants}
use Rattle.lps_printer.specs.NeededConstants.{Finds, linear_nils}

-- the copied sections, the added ones with these constants for empty lists, and the process with the constants in their place
abbrev pub linear_text : PlainSpec → Sig → List Tree → Name → PlainLinear → List FunId → Constants → List ℕ
linear_text spec h ts x l added c =
    sections_text (linear_sections (copied_sections spec.sections ++ added_sections spec h (text_names_under h x) added)
    (text_names_under h x) (filled_linear c (text_names_under h x) (linear_of (entries_of h ts) l)) (filled_terms c (text_names_under h x) true (initial_of (entries_of h ts) l)))

-- The text of a linear process under a name, where the signature g becomes h: a constant is added for each sort of elements of the
-- empty lists that stand in open places, in the order in which they are met, and stands in their place.
pub record IsPrinted (spec : PlainSpec) (g h : Sig) (ts : List Tree) (x : NameId) (l : PlainLinear) (text : List ℕ) : Type 0 where
  pub needed : List Sort
  pub finds : Finds [] (linear_nils (text_names_under g []) (linear_of (entries_of g ts) l) (initial_of (entries_of g ts) l)) needed
  pub sorts : List SortId
  pub over : map (sort_under g) sorts ≡ map list needed
  pub added : AddsConstants g sorts h
  pub written : (c : Constants) → AreConstants (length g.declared) needed c → text ≡ linear_text spec h ts (text_under h x) l (numbers_from (length g.functions) (length needed)) c

-- the text of each wording with the names of the signature and these constants for empty lists
abbrev pub HasText : PlainSpec → Sig → List Tree → List (Option FunId) → Name → PlainLinear → List FunId → List ℕ → Type 0
HasText spec g ts constants x l added text =
    (c : Constants) → IsTextWordedBy g (once_functions g) constants (once_actions g) (record { names = text_names_under g x; constant = c }) → text ≡ linear_text spec g ts x l added c
