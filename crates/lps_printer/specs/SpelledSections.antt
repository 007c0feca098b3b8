-- Copied and added sections spell the declarations that they are printed for.
use Rattle.std.specs.Prelude.{ℕ, List, ◌++◌, map}
use Rattle.std.specs.List.{AllByRecursion}
use Rattle.mcrl2_lexer.specs.declared.token.Token.{Token}
use Rattle.mcrl2_lexer.specs.Lexing.{HasTokens}
use Rattle.mcrl2_syntax.specs.Declarations.{PlainSpec}
use Rattle.mcrl2_syntax.specs.SpelledDeclarations.{SpellsSpec}
use Rattle.data_theory.specs.declared.ids.FunId.{FunId}
use Rattle.data_theory.specs.declared.ids.NameId.{NameId}
use Rattle.data_theory.specs.Signature.{Sig}
use Rattle.data_theory.specs.Terms.{Term}
use Rattle.bisim_laws.specs.LinearProcesses.{Linear}
use Rattle.sort_table.specs.BareDeclarations.{Section, bare_section}
use Rattle.sort_table.specs.SignatureVocabularies.{text_under}
use Rattle.sort_checker.specs.FullVocabularies.{FullVocabulary}
use Rattle.lps_printer.specs.DataLayout.{IsIdentifier}
use Rattle.lps_printer.specs.NamedSummands.{IsNamedVariable}
use Rattle.lps_printer.specs.WrittenProcesses.{TextNames}
use Rattle.lps_printer.specs.LinearBack.{LinearReads}
use Rattle.lps_printer.specs.SummandTexts.{AreNamed}
use Rattle.lps_printer.specs.TextSections.{PrintedSection, AreSections}
use Rattle.lps_printer.specs.CopiedSections.{kept_sections, copied_sections}
use Rattle.lps_printer.specs.AddedDeclarations.{added_functions, added_actions_of, constants_among, name_at, constant_with, added_sections, added_declared}
use Rattle.lps_printer.specs.NamedStructs.{BeginsNamedStruct}
use Rattle.lps_printer.specs.WholeTexts.{HaveNoProcess, IsWholeText}

-- sections of these declarations, none of them a process
pub record DeclareData (ss : List PrintedSection) (bs : List Section) : Type 0 where
  pub are_sections : AreSections ss bs
  pub no_process : HaveNoProcess bs

-- what is copied of a text
abbrev pub copied_declared : PlainSpec → List Section
copied_declared spec = map bare_section (kept_sections spec.sections)

-- The copied sections of a text spell its declarations.
abbrev pub CopiedSectionsSpellBack : Type 0
CopiedSectionsSpellBack = (text : List ℕ) (spec : PlainSpec) (tokens : List Token) → HasTokens text tokens → SpellsSpec text spec tokens → DeclareData (copied_sections spec.sections) (copied_declared spec)

-- The names of what is added are identifiers.
pub record AddsNamedDeclarations (spec : PlainSpec) (g : Sig) (n : TextNames) (empty_lists : List FunId) : Type 0 where
  pub actions : AllByRecursion (λ (a : NameId). IsIdentifier (text_under g a)) (added_actions_of spec g)
  pub structs : AllByRecursion (BeginsNamedStruct g n) (added_functions spec g)
  pub constants : AllByRecursion (λ (f : FunId). IsNamedVariable (constant_with g n f)) (constants_among g (added_functions spec g))
  pub lists : AllByRecursion (λ (f : FunId). IsIdentifier (name_at g f)) empty_lists

-- The added sections spell actions, structs, mappings and equations.
abbrev pub AddedSectionsSpellBack : Type 0
AddedSectionsSpellBack = (spec : PlainSpec) (g : Sig) (n : TextNames) (empty_lists : List FunId) → AddsNamedDeclarations spec g n empty_lists → DeclareData (added_sections spec g n empty_lists) (added_declared spec g n empty_lists)

-- The printed text of a linear process spells the copied declarations, the added ones, and the process and its start.
abbrev pub PrintedTextsSpellBack : Type 0
PrintedTextsSpellBack =
    (text : List ℕ) (spec : PlainSpec) (tokens : List Token) → HasTokens text tokens → SpellsSpec text spec tokens
    → (v : FullVocabulary) (g : Sig) (n : TextNames) (l : Linear) (ts : List Term) (empty_lists : List FunId) → LinearReads v n l ts → AreNamed n l → AddsNamedDeclarations spec g n empty_lists
    → IsWholeText (copied_sections spec.sections ++ added_sections spec g n empty_lists) (copied_declared spec ++ added_declared spec g n empty_lists) n l ts
