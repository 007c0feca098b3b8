-- Places in code.
use Rattle.std.specs.Prelude.{◌≡◌, ℕ, List}
use Rattle.std.specs.List.{All}
use Rattle.data_theory.specs.Environments.{Binding}
use Rattle.data_theory.specs.Terms.{Term}
use Rattle.data_theory.specs.Signature.{Sig}
use Rattle.data_theory.specs.IdTrees.{Tree}
use Rattle.data_rewriter.specs.Standing.{IsTerm, listed_at}
use Rattle.lps_sumelm.specs.Solutions.{IsFirst}
use Rattle.lps_invariant.specs.declared.places.Place as code
use Rattle.lps_invariant.specs.Places.{Place, put_each}

abbrev pub place_at : Sig → List Tree → code.Place → Place
place_at g ts p = record { hypotheses = listed_at g ts p.hypotheses.items; goals = listed_at g ts p.goals.items }

-- its terms are those of the pool
pub record PlaceStands (g : Sig) (ts : List Tree) (p : code.Place) : Type 0 where
  pub hypotheses : All (IsTerm g ts) p.hypotheses.items
  pub goals : All (IsTerm g ts) p.goals.items

-- the first hypothesis that gives a term for one of these variables is taken away, and the term is put in
pub record IsPlaceStep (xs : List ℕ) (p q : Place) : Type 0 where
  pub binding : Binding
  pub rest : List Term
  pub first : IsFirst xs p.hypotheses binding rest
  pub is : q ≡ record { hypotheses = put_each binding rest; goals = put_each binding p.goals }
