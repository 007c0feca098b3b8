-- The whole text of a linear process: copied and added sections, and those of the process and its start.
use Rattle.std.specs.Prelude.{◌≡◌, List, [], ◌∷◌, ◌++◌, map}
use Rattle.std.specs.List.{flat_map}
use Rattle.mcrl2_syntax.specs.declared.declaration.SectionWord.TheVariants as sections
use Rattle.data_theory.specs.Terms.{Term}
use Rattle.bisim_laws.specs.LinearProcesses.{Linear}
use Rattle.sort_table.specs.BareDeclarations.{process, initial, Section, declarations_in}
use Rattle.sort_checker.specs.FullVocabularies.{FullVocabulary, processes_in}
use Rattle.sort_checker.specs.Systems.{initial_by}
use Rattle.lps_printer.specs.WrittenProcesses.{TextNames, variable_written, summand_written, body_written, start_written, parameters_written, plain_process}
use Rattle.lps_printer.specs.LinearBack.{LinearReads}
use Rattle.lps_printer.specs.SummandTexts.{AreNamed}
use Rattle.lps_printer.specs.DefinitionTexts.{print_definition, print_start, start_action}
use Rattle.lps_printer.specs.TextSections.{PrintedSection, sections_text, AreSections, SpellsSections}
use Rattle.lps_printer.specs.PrintedSystems.{PrintsLinear}

-- `proc P(x: S) = ..;` and `init P(d);`
abbrev pub definition_section : TextNames → Linear → PrintedSection
definition_section n l = record { word = sections.Proc; declarations = print_definition n.process (map (variable_written n) l.params) (map (summand_written n l.params) l.summands) [] ∷ [] }

abbrev pub start_section : TextNames → List Term → PrintedSection
start_section n ts = record { word = sections.Init; declarations = print_start (start_action n ts) [] ∷ [] }

-- the text, behind other sections
abbrev pub linear_sections : List PrintedSection → TextNames → Linear → List Term → List PrintedSection
linear_sections ss n l ts = ss ++ (definition_section n l ∷ start_section n ts ∷ [])

-- what it is read as
abbrev pub linear_declared : List Section → TextNames → Linear → List Term → List Section
linear_declared bs n l ts =
    bs ++ (record { word = sections.Proc; declarations = process n.process (parameters_written n l.params) (plain_process (body_written n l)) ∷ [] }
    ∷ record { word = sections.Init; declarations = initial (start_written n ts) ∷ [] } ∷ [])

-- sections without processes
pub record HaveNoProcess (bs : List Section) : Type 0 where
  pub no_definition : processes_in (declarations_in bs) ≡ []
  pub no_start : flat_map initial_by (declarations_in bs) ≡ []

pub record IsWholeText (ss : List PrintedSection) (bs : List Section) (n : TextNames) (l : Linear) (ts : List Term) : Type 0 where
  pub spelled : SpellsSections (sections_text (linear_sections ss n l ts)) (linear_declared bs n l ts)
  pub prints : PrintsLinear (linear_declared bs n l ts) n l ts

-- The text spells a specification with the sections in front, and the process and its start behind.
abbrev pub WholeTextsSpellBack : Type 0
WholeTextsSpellBack =
    (v : FullVocabulary) (n : TextNames) (l : Linear) (ts : List Term) → LinearReads v n l ts → AreNamed n l → (ss : List PrintedSection) (bs : List Section) → AreSections ss bs → HaveNoProcess bs
    → IsWholeText ss bs n l ts
