-- Names stay identifiers as structs, constants and actions are added, and what is added has names that are identifiers.
use Rattle.std.specs.List.{All, Contains}
use Rattle.std.specs.Prelude.{◌≡◌, ℕ, List, slice_get, Some}
use Rattle.mcrl2_syntax.specs.Declarations.{PlainSpec}
use Rattle.data_theory.specs.declared.ids.FunId.{FunId}
use Rattle.data_theory.specs.declared.ids.NameId.{NameId}
use Rattle.data_theory.specs.declared.ids.SortId.{SortId}
use Rattle.data_theory.specs.Declarations.{IsSort}
use Rattle.data_theory.specs.IdData.{data_meant}
use Rattle.data_theory.specs.IdTrees.{Tree}
use Rattle.data_theory.specs.Keys.{Key}
use Rattle.data_theory.specs.Signature.{Sig}
use Rattle.data_theory.specs.Terms.{Sort}
use Rattle.data_theory.specs.WholeSignatures.{IsSignature}
use Rattle.sort_table.specs.Expressions.{Name}
use Rattle.sort_table.specs.SignatureVocabularies.{text_under, function_name_of, vocabulary_of}
use Rattle.sort_table.specs.Vocabularies.{sort_in}
use Rattle.lps_core.specs.Fitting.{Fits}
use Rattle.lps_core.specs.PlainLinears.{PlainLinear}
use Rattle.lps_printer.specs.AddedDeclarations.{added_functions, constants_among}
use Rattle.lps_printer.specs.DataLayout.{IsIdentifier}
use Rattle.lps_printer.specs.FittingLinears.{NamesAreIdentifiers}
use Rattle.lps_printer.specs.GrowingByAdditions.{GrowsByAdditions}
use Rattle.lps_printer.specs.SignatureNames.{text_names_under}
use Rattle.lps_printer.specs.SpelledSections.{AddsNamedDeclarations}
use Rattle.lps_printer.specs.WrittenProcesses.{TextNames, sort_written}

abbrev pub FunctionNamed : Sig → FunId → Type 0
FunctionNamed g f = IsIdentifier (function_name_of g (slice_get g.functions f.0))

-- the names of declared functions, sorts and actions are identifiers
pub record DeclaresIdentifiers (g : Sig) : Type 0 where
  pub functions : All (FunctionNamed g) g.declared
  pub sorts : All (λ (e : NameId × SortId). IsIdentifier (text_under g e.0)) g.sort_names
  pub actions : All (λ (a : Key). IsIdentifier (text_under g a.name)) g.actions

abbrev pub DeclaredStayIdentifiers : Type 0
DeclaredStayIdentifiers = (g h : Sig) → IsSignature g → GrowsByAdditions g h → DeclaresIdentifiers g → DeclaresIdentifiers h

abbrev pub NamesStayIdentifiers : Type 0
NamesStayIdentifiers = (g h : Sig) (ts : List Tree) (l : PlainLinear) → IsSignature g → Fits g ts l → GrowsByAdditions g h → NamesAreIdentifiers g l → NamesAreIdentifiers h l

-- What is added to a text has names that are identifiers, where the functions and the actions of the signature have, and those with which sorts are
-- written are.
abbrev pub WhatIsAddedIsNamed : Type 0
WhatIsAddedIsNamed =
    (spec : PlainSpec) (h : Sig) (n : TextNames) (empty_lists : List FunId) → IsSignature h → All (FunctionNamed h) h.declared → All (λ (a : Key). IsIdentifier (text_under h a.name)) h.actions → ((d : ℕ) → IsIdentifier (n.sort d))
    → All (Contains (constants_among h (added_functions spec h))) empty_lists → AddsNamedDeclarations spec h n empty_lists

-- what is written for a sort has that sort
abbrev pub WrittenSortsRead : Type 0
WrittenSortsRead = (h : Sig) (x : Name) (s : Sort) → IsSignature h → IsSort (data_meant h) s → sort_in (vocabulary_of h).sort_names (sort_written (text_names_under h x) s) ≡ Some s
