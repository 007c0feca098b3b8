-- A printed specification adds only what is allowed, where its sections are those that are copied, some added ones, and the process and its start.
use Rattle.std.specs.Prelude.{◌≡◌, ◌++◌, List, map}
use Rattle.std.specs.List.{AllByRecursion, Contains, flat_map}
use Rattle.data_theory.specs.FirstNames.{first_names}
use Rattle.data_theory.specs.Terms.{Term}
use Rattle.mcrl2_syntax.specs.Declarations.{PlainSpec}
use Rattle.bisim_laws.specs.LinearProcesses.{Linear}
use Rattle.sort_table.specs.BareDeclarations.{Section, bare_section, bare_sections}
use Rattle.sort_table.specs.Identifiers.{copied_identifiers}
use Rattle.sort_table.specs.PlacedSections.{IsPlaced}
use Rattle.sort_checker.specs.Systems.{equations_in}
use Rattle.lps_printer.specs.WrittenProcesses.{TextNames}
use Rattle.lps_printer.specs.WholeTexts.{linear_declared}
use Rattle.lps_printer.specs.CopiedSections.{kept_sections}
use Rattle.lps_printer.specs.CopiedParts.{data_in}
use Rattle.lin_driver.specs.Headline.{IsAddition, names_of_addition, IsOfAnEmptyList, AddsOnly}
use Rattle.lin_driver.specs.declared.ending.Ending.{Ending}

-- what these sections declare may be added
pub record MayBeAdded (ending : Ending) (own : PlainSpec) (added : List Section) : Type 0 where
  pub each_declaration : AllByRecursion (IsAddition ending) (data_in added)
  pub new_names : AllByRecursion (λ x. ¬ (Contains first_names x) × ¬ (Contains (copied_identifiers own) x)) (flat_map names_of_addition (data_in added))
  pub each_equation : AllByRecursion (IsOfAnEmptyList (flat_map names_of_addition (data_in added))) (equations_in added)

abbrev pub WhatMayBeAddedAddsOnly : Type 0
WhatMayBeAddedAddsOnly =
    (ending : Ending) (own printed : PlainSpec) (added : List Section) (n : TextNames) (l : Linear) (ts : List Term) → IsPlaced own → bare_sections printed ≡ linear_declared (map bare_section (kept_sections own.sections) ++ added) n l ts
    → MayBeAdded ending own added → AddsOnly ending own printed
