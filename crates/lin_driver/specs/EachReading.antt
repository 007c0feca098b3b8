-- What is printed for a text, with its end as it is, stands for it in each reading of both texts.
use Rattle.std.specs.Prelude.{◌≡◌, ℕ, List, ◌++◌, map, Some}
use Rattle.data_theory.specs.Terms.{Sort}
use Rattle.process_terms.specs.Theories.{Theory, IsConsistent}
use Rattle.process_terms.specs.Processes.{Process}
use Rattle.bisim_laws.specs.Bisimulations.{Bisimulation}
use Rattle.bisim_laws.specs.Links.{Pairs}
use Rattle.sort_table.specs.Expressions.{Name}
use Rattle.sort_table.specs.NamedLists.{all_named, first_named}
use Rattle.sort_table.specs.Vocabularies.{Vocabulary}
use Rattle.sort_checker.specs.FullVocabularies.{FullVocabulary}
use Rattle.lin_driver.specs.Headline.{Specifies, StandsFor}
use Rattle.lin_driver.specs.Renumberings.{Renumbering, new_sort, new_process}
use Rattle.lin_driver.specs.SameProcesses.{SameProcess}
use Rattle.lin_driver.specs.declared.ending.Ending.TheVariants.{End}

-- Each name of the first vocabulary has the same sort, functions and actions in the second one, under the new numbers; behind its functions there may be more.
pub record FindsVocabulary (r : Renumbering) (v w : Vocabulary) : Type 0 where
  pub sorts : (n : Name) (s : Sort) → first_named n v.sort_names ≡ Some s → first_named n w.sort_names ≡ Some (new_sort r s)
  pub functions : (f : Name) → (more : List ℕ) × (all_named f w.function_names ≡ map r.functions (all_named f v.function_names) ++ more)
  pub actions : (a : Name) → all_named a w.actions ≡ map (map (new_sort r)) (all_named a v.actions)

-- what a relation pairs, under new numbers
pub data Under (r : Renumbering) (R : Process → Process → Type 0) : Process → Process → Type 0 where
  under : {p q a b : Process} → SameProcess p (new_process r a) → R a b → SameProcess (new_process r b) q → Under r R p q

-- The process of this reading of the text, under the numbers that its sorts and functions have in this reading of the printed one, and that one's process are
-- paired by the link under new numbers, and so they are bisimilar.
pub record StandsInEach {text printed : List ℕ} (one : StandsFor End text printed) (v w : FullVocabulary) (ti : Theory) (p q : Process) : Type 0 where
  pub numbers : Renumbering
  pub found : FindsVocabulary numbers v.declared w.declared
  pub link_numbers : Renumbering
  pub starts : IsConsistent ti → Under link_numbers (Pairs one.theory one.link) (new_process numbers p) q
  pub follows : IsConsistent ti → Bisimulation ti (Under link_numbers (Pairs one.theory one.link))

abbrev pub WhatStandsForATextDoesSoInEachReading : Type 0
WhatStandsForATextDoesSoInEachReading =
    (text printed : List ℕ) (one : StandsFor End text printed) (v w : FullVocabulary) (th ti : Theory) (p q : Process) → Specifies text v th p → Specifies printed w ti q → StandsInEach one v w ti p q
