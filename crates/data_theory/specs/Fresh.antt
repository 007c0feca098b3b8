-- Names that aren't taken.
use Rattle.std.specs.Prelude.{◌≡◌, ◌<◌, ℕ, zero, suc, List, ◌∷◌, ◌++◌, decimal, Some, slice_get}
use Rattle.data_theory.specs.declared.ids.NameId.{NameId}
use Rattle.data_theory.specs.Signature.{Sig, IsTaken, with_taken}

-- the base itself, and then the base with `_` and a number behind it
abbrev pub candidate : List ℕ → ℕ → List ℕ
candidate base zero = base
candidate base (suc k) = base ++ 95 ∷ decimal (suc k)

-- the first candidate that isn't taken
pub record IsFresh (s : Sig) (base t : List ℕ) : Type 0 where
  pub number : ℕ
  pub named : t ≡ candidate base number
  pub free : ¬ (IsTaken s t)
  pub first : (k : ℕ) → k < number → IsTaken s (candidate base k)

-- the name of the first such candidate, which is taken
pub record IsFreshIn (old : Sig) (base : List ℕ) (name : NameId) (new : Sig) : Type 0 where
  pub text : List ℕ
  pub fresh : IsFresh old base text
  pub named : slice_get new.texts name.0 ≡ Some text
  pub taken : new ≡ with_taken old text
