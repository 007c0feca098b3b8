use Rattle.std.proofs.Common.{◌≡◌, take}
use Rattle.std.specs.List.{All}
use Rattle.data_theory.specs.declared.ids.VarId.{VarId}
use Rattle.data_theory.specs.declared.ids.TermId.{TermId}
use Rattle.data_rewriter.proofs.matching.found_for.Given as goal

abbrev pub invariant-loop-i : goal.invariant-loop-i
invariant-loop-i l = All (λ (p : VarId × TermId). p.0.0 ≡ l.var.0 → ⊥) (take l.i l.found)
