-- What is printed for a linear process that fits a signature can be read.
use Rattle.std.specs.Prelude.{◌≡◌, zero, true, List, [], map, length, slice_get, Some}
use Rattle.std.specs.List.{All, Contains}
use Rattle.data_theory.specs.declared.ids.FunId.{FunId}
use Rattle.data_theory.specs.declared.ids.NameId.{NameId}
use Rattle.data_theory.specs.declared.ids.SortId.{SortId}
use Rattle.data_theory.specs.declared.ids.VarId.{VarId}
use Rattle.data_theory.specs.Terms.{Sort, list, Term}
use Rattle.data_theory.specs.Environments.{AreDistinct}
use Rattle.data_theory.specs.Keys.{Key}
use Rattle.data_theory.specs.Signature.{Sig}
use Rattle.data_theory.specs.IdData.{data_meant}
use Rattle.data_theory.specs.IdTerms.{sort_under, variable_sorts}
use Rattle.data_theory.specs.IdTrees.{Tree}
use Rattle.data_theory.specs.WholeSignatures.{IsSignature}
use Rattle.process_terms.specs.SignatureEntries.{entries_of}
use Rattle.bisim_laws.specs.LinearProcesses.{Linear, IsLinear, IsWellSorted}
use Rattle.lps_core.specs.Fitting.{Fits}
use Rattle.lps_core.specs.Naming.{name_of, names_of, function_names, HaveOwnNames}
use Rattle.lps_core.specs.PlainLinears.{PlainSummand, PlainLinear, linear_of, initial_of}
use Rattle.sort_table.specs.Expressions.{Name}
use Rattle.sort_table.specs.SignatureVocabularies.{text_under, function_name_of, vocabulary_of}
use Rattle.sort_checker.specs.FullVocabularies.{FullVocabulary, process_named}
use Rattle.lps_printer.specs.DataLayout.{IsIdentifier}
use Rattle.lps_printer.specs.WrittenProcesses.{TextNames}
use Rattle.lps_printer.specs.LinearBack.{parameters_of, LinearReads}
use Rattle.lps_printer.specs.SummandTexts.{AreNamed}
use Rattle.lps_printer.specs.FilledLinears.{Constants, filled_linear, filled_terms}
use Rattle.lps_printer.specs.SignatureNames.{text_names_under}
use Rattle.lps_printer.specs.AddedConstants.{AddsConstants, AreConstants}
use Rattle.lps_printer.specs.NeededConstants.{Finds, linear_nils}
use Rattle.lps_printer.specs.GrowingByConstants.{GrowsByConstants}

-- the name of a variable is an identifier
abbrev pub HasIdentifier : Sig → VarId → Type 0
HasIdentifier g x = IsIdentifier (text_under g (name_of g x))

-- the names of the signature, and those of the process's variables, are identifiers
pub record NamesAreIdentifiers (g : Sig) (l : PlainLinear) : Type 0 where
  pub params : All (HasIdentifier g) l.params
  pub sums : All (λ (s : PlainSummand). All (HasIdentifier g) s.sums) l.summands
  pub functions : All (λ (f : FunId). IsIdentifier (function_name_of g (slice_get g.functions f.0))) g.declared
  pub sorts : All (λ (e : NameId × SortId). IsIdentifier (text_under g e.0)) g.sort_names
  pub actions : All (λ (a : Key). IsIdentifier (text_under g a.name)) g.actions

-- the names of the parameters differ, and none is a function's; a sum has neither the name of a parameter or a function nor that of another sum of its summand
pub record VariablesHaveOwnNames (g : Sig) (l : PlainLinear) : Type 0 where
  pub differ : AreDistinct (map (λ (n : NameId). n.0) (names_of g l.params))
  pub unused : All (λ (x : VarId). ¬ (Contains (function_names g) (name_of g x))) l.params
  pub sums : HaveOwnNames g l

-- it reads back, its names are identifiers, and it is a linear process that is well sorted over one list of the variables' sorts
pub record CanBeRead (v : FullVocabulary) (h : Sig) (n : TextNames) (l : Linear) (initial : List Term) : Type 0 where
  pub reads : LinearReads v n l initial
  pub named : AreNamed n l
  pub linear : IsLinear l
  pub sorted : IsWellSorted (data_meant h) (variable_sorts h) l

-- With the constants that are added for the empty lists in need, over a vocabulary that is the grown signature's and has the process. That no
-- two functions have one name and the same argument sorts, built-in ones included, is so in each signature.
abbrev pub FittingLinearsRead : Type 0
FittingLinearsRead =
    (v : FullVocabulary) (g h : Sig) (ts : List Tree) (l : PlainLinear) (x : Name) (needed : List Sort) (sorts : List SortId) (c : Constants)
    → IsSignature g → IsSignature h → GrowsByConstants g h → Fits g ts l → VariablesHaveOwnNames g l → NamesAreIdentifiers h l → IsIdentifier x
    → Finds [] (linear_nils (text_names_under g []) (linear_of (entries_of g ts) l) (initial_of (entries_of g ts) l)) needed
    → map (sort_under g) sorts ≡ map list needed → AddsConstants g sorts h → AreConstants (length g.declared) needed c
    → v.declared ≡ vocabulary_of h → process_named v x ≡ Some (zero, parameters_of (text_names_under h x) (linear_of (entries_of h ts) l).params)
    → CanBeRead v h (text_names_under h x) (filled_linear c (text_names_under h x) (linear_of (entries_of h ts) l)) (filled_terms c (text_names_under h x) true (initial_of (entries_of h ts) l))
