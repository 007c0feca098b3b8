-- What is copied of a text has its data and its equations.
use Rattle.std.specs.Prelude.{◌≡◌, List, [], ◌∷◌, map}
use Rattle.std.specs.List.{AllByRecursion, flat_map}
use Rattle.mcrl2_syntax.specs.Declarations.{PlainSection}
use Rattle.sort_table.specs.BareDeclarations.{Declaration, variables, equation, process, initial, Section, declarations_in, bare_section}
use Rattle.sort_table.specs.PlacedSections.{IsPlacedSection}
use Rattle.sort_checker.specs.Systems.{equations_in}
use Rattle.lps_printer.specs.CopiedSections.{kept_sections}

-- what declares sorts, functions and actions
abbrev pub data_by : Declaration → List Declaration
data_by (variables xs) = []
data_by (equation c l r) = []
data_by (process n xs p) = []
data_by (initial p) = []
data_by d = d ∷ []

abbrev pub data_in : List Section → List Declaration
data_in ss = flat_map data_by (declarations_in ss)

-- each declaration stands in a section of its word
pub record CopiesKeepParts (ss : List PlainSection) : Type 0 where
  pub data_stays : data_in (map bare_section (kept_sections ss)) ≡ data_in (map bare_section ss)
  pub equations_stay : equations_in (map bare_section (kept_sections ss)) ≡ equations_in (map bare_section ss)

abbrev pub WhatIsCopiedHasAllParts : Type 0
WhatIsCopiedHasAllParts = (ss : List PlainSection) → AllByRecursion IsPlacedSection ss → CopiesKeepParts ss
