-- Moves of a linear process that are taken one after another, each picked among the options of the state where the process stands.
use Rattle.std.specs.Prelude.{◌≡◌, ℕ, List, [], ◌∷◌, length, Option, Some, None, slice_get}
use Rattle.data_theory.specs.declared.ids.TermId.{TermId}
use Rattle.data_theory.specs.IdTrees.{Tree}
use Rattle.data_theory.specs.Provable.{Equation}
use Rattle.data_theory.specs.Signature.{Sig}
use Rattle.term_pool.specs.Pools.{Extends}
use Rattle.process_terms.specs.Labels.{Label}
use Rattle.lps_core.specs.PlainLinears.{PlainLinear}
use Rattle.lps_simulator.specs.OptionLaws.{HasOptions}
use Rattle.lps_simulator.specs.OptionsInCode.{PlainMove, PlainOptions, meant_move, no_options}

-- a way to pick one of so many moves: its place, where one is picked
abbrev pub Pick : Type 0
Pick = ℕ → Option ℕ

-- From a state the linear process takes a move for each pick, one of its options where it stands, and goes on from where that move leads. It does the labels of these moves, and then
-- stands in the last state, or at its end. The pool grows from the first trees to the second ones.
pub data TakesMoves (g : Sig) (own : List Equation) (fuel bound : ℕ) (l : PlainLinear) : List Pick → List Tree → Option (List TermId) → List Tree → Option (List TermId) → List Label → Type 0 where
  none_taken : {ts : List Tree} {state : Option (List TermId)} → TakesMoves g own fuel bound l [] ts state ts state []
  one_taken : {pick : Pick} {picks : List Pick} {ts us vs : List Tree} {state : List TermId} {last : Option (List TermId)} {labels : List Label} (found : PlainOptions) (m : PlainMove) (place : ℕ) → HasOptions g own fuel bound ts us l state found
      → Extends ts us → pick (length found.moves) ≡ Some place → slice_get found.moves place ≡ Some m → TakesMoves g own fuel bound l picks us m.next vs last labels
      → TakesMoves g own fuel bound l (pick ∷ picks) ts (Some state) vs last ((meant_move g us m).label ∷ labels)

-- the options of a state; behind the end there are none
abbrev pub HasOptionsIn : Sig → List Equation → ℕ → ℕ → List Tree → List Tree → PlainLinear → Option (List TermId) → PlainOptions → Type 0
HasOptionsIn g own fuel bound ts us l None found = found ≡ no_options
HasOptionsIn g own fuel bound ts us l (Some state) found = HasOptions g own fuel bound ts us l state found
