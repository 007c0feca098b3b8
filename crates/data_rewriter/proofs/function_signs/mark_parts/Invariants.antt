use Rattle.std.proofs.Common.{◌≡◌, ◌<◌, Some}
use Rattle.std.specs.Prelude.{slice_get, IfSome}
use Rattle.data_theory.specs.declared.ids.FunId.{FunId}
use Rattle.data_theory.specs.Functions.{Function}
use Rattle.data_rewriter.specs.Marking.{Marks, IsMarked, AreMarkedWhereThere}
use Rattle.data_rewriter.proofs.function_signs.mark_parts.Given as goal

abbrev pub invariant-loop-number : goal.invariant-loop-number
invariant-loop-number l = Marks l.sig l.fn.signs.items l.signs.items × ((c : FunId) (h : Function) → c.0 < l.number → slice_get l.sig.functions c.0 ≡ Some h → AreMarkedWhereThere l.signs.items h.projections × IfSome h.test (IsMarked l.signs.items))
