-- What is added to a text where its signature grows by structs, by constants and by actions.
use Rattle.std.specs.Prelude.{◌≡◌, List, [], ◌∷◌, ◌++◌, length, map, Option, option_map}
use Rattle.std.specs.List.{All, Contains}
use Rattle.mcrl2_syntax.specs.Declarations.{PlainSpec}
use Rattle.mcrl2_syntax.specs.declared.declaration.SectionWord.TheVariants as sections
use Rattle.data_theory.specs.declared.ids.FunId.{FunId}
use Rattle.data_theory.specs.declared.ids.NameId.{NameId}
use Rattle.data_theory.specs.declared.ids.SortId.{SortId}
use Rattle.data_theory.specs.Signature.{Sig}
use Rattle.data_theory.specs.Structs.{Con, numbers_from}
use Rattle.data_theory.specs.Terms.{Sort, list}
use Rattle.data_theory.specs.IdTerms.{sort_under}
use Rattle.data_theory.specs.WholeSignatures.{IsSignature}
use Rattle.sort_table.specs.BareDeclarations.{Field, Constructor, Declaration, struct, Section, bare_sections, declarations_in}
use Rattle.sort_table.specs.Expressions.{Name}
use Rattle.sort_table.specs.SignatureVocabularies.{text_under, vocabulary_of}
use Rattle.sort_table.specs.SortMeanings.{under_names}
use Rattle.sort_table.specs.Vocabularies.{IsVocabularyOf}
use Rattle.lps_printer.specs.declared.added_sections.Line.TheVariants as lines
use Rattle.lps_printer.specs.WrittenProcesses.{TextNames, sort_written}
use Rattle.lps_printer.specs.AddedConstants.{AddsConstants}
use Rattle.lps_printer.specs.AddedDeclarations.{added_functions, added_actions_of, constants_among, name_at, empty_list_declared, lines_declared, action_declared, actions_declared, added_declared}
use Rattle.lps_printer.specs.GrownTexts.{mapping_declared, mappings_declared}
use Rattle.lps_printer.specs.GrowingByConstants.{GrowsByConstants}
use Rattle.lps_printer.specs.GrowingByAdditions.{Struct, GrowsByAdditions, added_structs, added_constants, added_actions}
use Rattle.lps_printer.specs.SignatureNames.{text_names_under}

-- ---- structs
-- `p: S`
abbrev pub field_declared : Sig → TextNames → Option NameId × SortId → Field
field_declared h n f = record { name = option_map (text_under h) f.0; sort = sort_written n (sort_under h f.1) }

-- `c(p: S)?r`
abbrev pub constructor_declared : Sig → TextNames → Con → Constructor
constructor_declared h n c = record { name = text_under h c.name; fields = map (field_declared h n) c.fields; recogniser = option_map (text_under h) c.test }

-- `S = struct c(p: S)?r | ..`
abbrev pub declaration_of : Sig → TextNames → Struct → Declaration
declaration_of h n s = struct (text_under h s.0) (map (constructor_declared h n) s.1)

-- in a section of its own
abbrev pub section_of : Sig → TextNames → Struct → Section
section_of h n s = record { word = sections.Sort; declarations = declaration_of h n s ∷ [] }

-- ---- what is added
-- The actions that the text doesn't declare, and the constants among the functions that it doesn't, are those by which the signature grew. What is
-- added are the actions, the structs, mappings of the constants, and the equations of empty lists.
pub record AddsThem {g h : Sig} (spec : PlainSpec) (w : GrowsByAdditions g h) : Type 0 where
  pub actions : added_actions_of spec h ≡ added_actions w
  pub constants : map (name_at h) (constants_among h (added_functions spec h)) ≡ map (λ (c : NameId × SortId). text_under h c.0) (added_constants w)
  pub declared : (x : Name) (empty_lists : List FunId) → added_declared spec h (text_names_under h x) empty_lists
      ≡ actions_declared h (added_actions w)
      ++ (map (section_of h (text_names_under h x)) (added_structs w) ++ (mappings_declared h (text_names_under h x) (added_constants w) ++ lines_declared h (text_names_under h x) lines.EmptyList empty_lists))
  pub declarations : (x : Name) (empty_lists : List FunId) → declarations_in (added_declared spec h (text_names_under h x) empty_lists)
      ≡ map (action_declared h) (added_actions w)
      ++ (map (declaration_of h (text_names_under h x)) (added_structs w) ++ (map (mapping_declared h (text_names_under h x)) (added_constants w) ++ map (λ (f : FunId). empty_list_declared (name_at h f)) empty_lists))

-- The signature g has what the text declares, and h has structs, constants and actions more.
abbrev pub WhatIsAddedIsPrinted : Type 0
WhatIsAddedIsPrinted =
    (spec : PlainSpec) (g h : Sig) → IsSignature g → IsVocabularyOf (under_names (declarations_in (bare_sections spec))) (vocabulary_of g) → (w : GrowsByAdditions g h) → AddsThem spec w

-- The constants that are added for empty lists are among those that the text doesn't declare.
abbrev pub EmptyListsAreAdded : Type 0
EmptyListsAreAdded =
    (spec : PlainSpec) (g i h : Sig) (sorts : List SortId) (needed : List Sort) → IsSignature g → IsSignature i → IsSignature h → IsVocabularyOf (under_names (declarations_in (bare_sections spec))) (vocabulary_of g)
    → GrowsByAdditions g i → GrowsByConstants i h → AddsConstants i sorts h → map (sort_under i) sorts ≡ map list needed
    → All (Contains (constants_among h (added_functions spec h))) (numbers_from (length i.functions) (length needed))
