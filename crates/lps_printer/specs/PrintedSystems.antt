-- A text with the printed process of a linear process has that process.
use Rattle.std.specs.Prelude.{◌≡◌, List, [], ◌∷◌}
use Rattle.std.specs.List.{flat_map}
use Rattle.data_theory.specs.Terms.{Sort, Term}
use Rattle.process_terms.specs.Theories.{Theory}
use Rattle.bisim_laws.specs.LinearProcesses.{Linear, state_of, IsLinear, IsWellSorted, IsLinearText}
use Rattle.sort_table.specs.BareDeclarations.{Section, declarations_in}
use Rattle.sort_table.specs.Vocabularies.{EachPair}
use Rattle.sort_checker.specs.FullVocabularies.{FullVocabulary, processes_in}
use Rattle.sort_checker.specs.Elaborations.{ElaboratesEquation}
use Rattle.sort_checker.specs.Refusals.{IsWellTyped}
use Rattle.sort_checker.specs.Systems.{equations_in, initial_by, IsSystem}
use Rattle.lps_printer.specs.WrittenProcesses.{TextNames, body_written, start_written, parameters_written, plain_process}
use Rattle.lps_printer.specs.LinearBack.{LinearReads}

-- `proc P(x: S, ..) = ..;` with the printed summands, and `init P(..);`, and no other process
pub record PrintsLinear (ss : List Section) (n : TextNames) (l : Linear) (initial : List Term) : Type 0 where
  pub definition : processes_in (declarations_in ss) ≡ record { name = n.process; parameters = parameters_written n l.params; body = plain_process (body_written n l) } ∷ []
  pub start : flat_map initial_by (declarations_in ss) ≡ start_written n initial ∷ []

-- of a well-typed text whose equations are those of the theory
abbrev pub PrintedSystemsAreLinear : Type 0
PrintedSystemsAreLinear =
    (ss : List Section) (v : FullVocabulary) (th : Theory) (n : TextNames) (l : Linear) (initial : List Term)
    → IsWellTyped v ss → th.declared ≡ v.declared.tables → EachPair (ElaboratesEquation v) (equations_in ss) th.equations
    → PrintsLinear ss n l initial → LinearReads v n l initial → (vs : List Sort) → IsLinear l → IsWellSorted th.declared vs l
    → IsSystem ss v th (state_of l initial) × IsLinearText th (state_of l initial)
