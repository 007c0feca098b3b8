use Rattle.std.proofs.Common.{◌≡◌, ◌<◌, ℕ, Some}
use Rattle.std.specs.Prelude.{slice_get}
use Rattle.data_theory.specs.declared.ids.SortId.{SortId}
use Rattle.data_theory.specs.Sorts.{IsBare}
use Rattle.value_enum.proofs.enumerating.has_bare.Given as goal

abbrev pub invariant-loop-number : goal.invariant-loop-number
invariant-loop-number l = (k : ℕ) (s : SortId) → k < l.number → slice_get l.sorts.keys k ≡ Some s → IsBare l.sig.sorts s → ⊥
