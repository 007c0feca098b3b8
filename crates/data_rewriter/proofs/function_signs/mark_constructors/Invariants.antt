use Rattle.std.proofs.Common.{◌≡◌, ◌<◌, Some}
use Rattle.std.specs.Prelude.{slice_get}
use Rattle.data_theory.specs.declared.ids.SortId.{SortId}
use Rattle.data_theory.specs.Sorts.{SortInfo}
use Rattle.data_theory.specs.IdData.{constructors_of}
use Rattle.data_rewriter.specs.Marking.{Marks, AreMarked}
use Rattle.data_rewriter.proofs.function_signs.mark_constructors.Given as goal

abbrev pub invariant-loop-number : goal.invariant-loop-number
invariant-loop-number l = Marks l.sig l.fn.signs.items l.signs.items × ((s : SortId) (t : SortInfo) → s.0 < l.number → slice_get l.sig.sorts s.0 ≡ Some t → AreMarked l.signs.items (constructors_of t.kind))
