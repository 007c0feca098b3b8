-- Mappings without arguments, as they are declared for constants.
use Rattle.std.specs.Prelude.{List, [], ◌∷◌, map}
use Rattle.mcrl2_syntax.specs.declared.declaration.SectionWord.TheVariants as sections
use Rattle.data_theory.specs.declared.ids.NameId.{NameId}
use Rattle.data_theory.specs.declared.ids.SortId.{SortId}
use Rattle.data_theory.specs.Signature.{Sig}
use Rattle.data_theory.specs.IdTerms.{sort_under}
use Rattle.sort_table.specs.BareDeclarations.{Declaration, mappings, Section}
use Rattle.sort_table.specs.SignatureVocabularies.{text_under}
use Rattle.lps_printer.specs.WrittenProcesses.{TextNames, sort_written}

-- `c: S`
abbrev pub mapping_declared : Sig → TextNames → NameId × SortId → Declaration
mapping_declared h n c = mappings (text_under h c.0 ∷ []) [] (sort_written n (sort_under h c.1))

-- no section where there are none
abbrev pub mappings_declared : Sig → TextNames → List (NameId × SortId) → List Section
mappings_declared h n [] = []
mappings_declared h n (c ∷ cs) = record { word = sections.Map; declarations = map (mapping_declared h n) (c ∷ cs) } ∷ []
