use Rattle.std.proofs.Common.{map, take}
use Rattle.data_theory.specs.IdTerms.{sort_under}
use Rattle.data_rewriter.specs.Signatures.{AreEqualities}
use Rattle.data_rewriter.proofs.building.equalities_of.Given as goal

abbrev pub invariant-loop-i : goal.invariant-loop-i
invariant-loop-i l = AreEqualities l.sig l.equalities.items (map (sort_under l.sig) (take l.i l.sorts))
