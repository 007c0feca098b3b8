-- What the code says of a list of first values.
use Rattle.std.specs.Prelude.{◌≡◌, ◌<◌, ℕ, Bool, true, false, List, [], length, get_or}
use Rattle.std.specs.List.{Contains}
use Rattle.data_theory.specs.declared.ids.SortId.{SortId}
use Rattle.data_theory.specs.declared.ids.TermId.{TermId}
use Rattle.data_theory.specs.Signature.{Sig}
use Rattle.data_theory.specs.IdTrees.{Tree}
use Rattle.term_pool.specs.ConstructorValues.{ConstructorValue}
use Rattle.value_enum.specs.declared.levels.ValueRow.{ValueRow}
use Rattle.value_enum.specs.Values.{IsPlainValueOf, AreFirst, AreTermsOf}
use Rattle.value_enum.specs.Levels.{values_at}

-- the terms are those of the first values, and the flag says whether they are all
pub record AreAllOrFirst (g : Sig) (s : SortId) (bound : ℕ) (ts : List Tree) (ids : List TermId) (all : Bool) : Type 0 where
  pub values : List ConstructorValue
  pub first : AreFirst g s bound values
  pub terms : AreTermsOf ts ids values
  pub all_there : all ≡ true → (w : ConstructorValue) → IsPlainValueOf g s w → Contains values w
  pub not_all : all ≡ false → ((w : ConstructorValue) → IsPlainValueOf g s w → Contains values w) → ⊥

-- a weight is entered for each sort that has values of it
pub record AreNoted (rows : List ValueRow) (w : ℕ) (old new : List ℕ) : Type 0 where
  pub size : length new ≡ length old
  pub there : (k : ℕ) → k < length old → ¬ (values_at rows w (record { 0 = k }) ≡ []) → get_or new k 0 ≡ w
  pub others : (k : ℕ) → k < length old → values_at rows w (record { 0 = k }) ≡ [] → get_or new k 0 ≡ get_or old k 0
