-- Constants that are added for empty lists.
use Rattle.std.specs.Prelude.{◌≡◌, ℕ, suc, ◌+◌, List, [], ◌∷◌, length, replicate, codes, Option, Some, None, slice_get}
use Rattle.std.specs.List.{Contains}
use Rattle.std.proofs.Math.ListN.{set}
use Rattle.data_theory.specs.declared.ids.FunId.{FunId}
use Rattle.data_theory.specs.declared.ids.NameId.{NameId}
use Rattle.data_theory.specs.declared.ids.SortId.{SortId}
use Rattle.data_theory.specs.Table.{bool_sort}
use Rattle.data_theory.specs.Terms.{Sort}
use Rattle.data_theory.specs.Functions.{Function, declared_function}
use Rattle.data_theory.specs.Fresh.{IsFreshIn}
use Rattle.data_theory.specs.Signature.{Sig, with_taken, with_function}

-- the sort of a function's result
abbrev pub result_or : Option Function → SortId
result_or None = bool_sort
result_or (Some f) = f.result

abbrev pub result_in : Sig → FunId → SortId
result_in g f = result_or (slice_get g.functions f.0)

-- a mapping of this sort, without arguments, under the first of `nil`, `nil_1`, `nil_2` and so on that isn't taken
pub record AddsConstant (g : Sig) (s : SortId) (h : Sig) : Type 0 where
  pub name : NameId
  pub between : Sig
  pub fresh : IsFreshIn g (codes "nil") name between
  pub declared : h ≡ with_function between (declared_function name [] s)

-- one of each of these sorts, one after the other
pub data AddsEach : Sig → List SortId → Sig → Type 0 where
  none_left : {g : Sig} → AddsEach g [] g
  adds : {g h k : Sig} {s : SortId} {ss : List SortId} → AddsConstant g s h → AddsEach h ss k → AddsEach g (s ∷ ss) k

-- `nil` itself is taken first, so that they are called `nil_1`, `nil_2` and so on
abbrev pub AddsConstants : Sig → List SortId → Sig → Type 0
AddsConstants g [] h = h ≡ g
AddsConstants g (s ∷ ss) h = AddsEach (with_taken g (codes "nil")) (s ∷ ss) h

-- ---- the table of constants
-- for each function none
abbrev pub bare_table : Sig → List (Option FunId)
bare_table g = replicate (length g.functions) None

-- with the numbers from here on for these functions
abbrev pub with_constants : ℕ → List FunId → List (Option FunId) → List (Option FunId)
with_constants k [] table = table
with_constants k (f ∷ fs) table = with_constants (suc k) fs (set table f.0 (Some (record { 0 = k })))

-- ---- what they stand for
-- the constants that are declared behind so many functions stand for the empty lists over these sorts, in their order
pub record AreConstants (d : ℕ) (ss : List Sort) (c : Sort → Option ℕ) : Type 0 where
  pub stands : (i : ℕ) (s : Sort) → slice_get ss i ≡ Some s → c s ≡ Some (d + i)
  pub others : (s : Sort) → ¬ (Contains ss s) → c s ≡ None
