use Rattle.std.proofs.Common.{◌↔◌, ◌⊎◌, take}
use Rattle.std.specs.List.{Contains}
use Rattle.data_theory.specs.declared.ids.TermId.{TermId}
use Rattle.lps_invariant.proofs.deciding.insert_all.Given as goal

abbrev pub invariant-loop-term : goal.invariant-loop-term
invariant-loop-term l = (term : TermId) → Contains l.set.keys term ↔ (Contains l.fn.set.keys term ⊎ Contains (take l.term-index l.terms) term)
