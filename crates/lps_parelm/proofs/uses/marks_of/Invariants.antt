use Rattle.std.proofs.Common.{◌≡◌, map, take, false}
use Rattle.std.specs.Prelude.{slice_index_or}
use Rattle.data_theory.specs.declared.ids.TermId.{TermId}
use Rattle.lps_parelm.proofs.uses.marks_of.Given as goal

abbrev pub invariant-loop-param : goal.invariant-loop-param
invariant-loop-param l = l.marks.items ≡ map (λ (param : TermId). slice_index_or l.marked param.0 false) (take l.param-index l.params)
