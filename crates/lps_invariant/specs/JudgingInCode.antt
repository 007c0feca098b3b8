-- What is found at places, in code.
use Rattle.std.specs.Prelude.{◌≡◌, ◌<◌, ◌⊎◌, ℕ, suc, List, Some, slice_get}
use Rattle.std.specs.List.{All}
use Rattle.data_theory.specs.declared.ids.TermId.{TermId}
use Rattle.data_theory.specs.Provable.{Equation}
use Rattle.data_theory.specs.Signature.{Sig}
use Rattle.data_theory.specs.IdData.{data_meant}
use Rattle.data_theory.specs.IdTrees.{Tree}
use Rattle.term_pool.specs.Pools.{Extends}
use Rattle.data_rewriter.specs.declared.rewriter.Truth.{Truth}
use Rattle.data_rewriter.specs.Standing.{IsTerm, listed_at, term_at}
use Rattle.lps_core.specs.Conditions.{parts}
use Rattle.lps_core.specs.Fitting.{Fits}
use Rattle.lps_core.specs.PlainLinears.{PlainSummand, PlainLinear}
use Rattle.lps_invariant.specs.declared.deciding.Found.{Found}
use Rattle.lps_invariant.specs.declared.deciding.Found.TheVariants.{Contradictory, Shown, Open}
use Rattle.lps_invariant.specs.Places.{Place}
use Rattle.lps_invariant.specs.Decisions.{IsRefuted}
use Rattle.lps_invariant.specs.Judging.{IsShownBy, IsShownWith, IsOpenAt, PlaceOf}

-- a term of the pool, with its parts
pub record ArePartsOf (g : Sig) (ts : List Tree) (inv : TermId) (ids : List TermId) : Type 0 where
  pub term : IsTerm g ts inv
  pub stand : All (IsTerm g ts) ids
  pub are : listed_at g ts ids ≡ parts (term_at g ts inv)

-- a linear process that fits an earlier pool, and a term of that one with its parts
pub record IsAskedOf (g : Sig) (ts us : List Tree) (l : PlainLinear) (inv : TermId) (ids : List TermId) : Type 0 where
  pub pool : Extends ts us
  pub lin : Fits g ts l
  pub invariant : ArePartsOf g ts inv ids

-- ---- places
abbrev pub IsFound : Sig → List Equation → ℕ → List Tree → Found → Place → Type 0
IsFound g own fuel us Contradictory p = IsRefuted (data_meant g) own fuel p
IsFound g own fuel us (Shown truths) p = IsShownWith g own fuel us truths.items p
IsFound g own fuel us (Open part truths) p = IsOpenAt g own fuel us part truths.items p

-- the summand with this number, from 1, is the first one that isn't contradictory and has a goal that isn't proved
pub record IsOpenSummand (g : Sig) (own : List Equation) (fuel : ℕ) (ts us : List Tree) (l : PlainLinear) (inv : TermId) (place part : ℕ) (truths : List Truth) : Type 0 where
  pub number : ℕ
  pub from_one : place ≡ suc number
  pub summand : PlainSummand
  pub there : slice_get l.summands number ≡ Some summand
  pub is_open : PlaceOf (IsOpenAt g own fuel us part truths) g ts l inv summand
  pub before : (i : ℕ) (s : PlainSummand) → i < number → slice_get l.summands i ≡ Some s → PlaceOf (IsShownBy g own fuel us) g ts l inv s ⊎ PlaceOf (IsRefuted (data_meant g) own fuel) g ts l inv s
