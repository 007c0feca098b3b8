use Rattle.std.proofs.Common.{◌≡◌, ◌<◌, ℕ}
use Rattle.std.specs.Prelude.{Some, slice_get}
use Rattle.data_theory.specs.declared.ids.NameId.{NameId}
use Rattle.sort_table.proofs.FirstEmpty.{IsInhabitedName}
use Rattle.sort_table.proofs.empty_sorts.empty_sort.Given as goal

abbrev pub invariant-loop-name : goal.invariant-loop-name
invariant-loop-name l = (j : ℕ) (i : NameId) → j < l.name-index → slice_get l.names j ≡ Some i → IsInhabitedName l.sig i
