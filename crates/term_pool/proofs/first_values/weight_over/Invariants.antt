use Rattle.std.proofs.Common.{drop}
use Rattle.data_theory.specs.Signature.{Sig}
use Rattle.term_pool.specs.FirstValues.{AreFirstSoFar}
use Rattle.term_pool.proofs.FirstLoops.{IsLeft}
use Rattle.term_pool.proofs.first_values.weight_over.Given as goal

abbrev pub invariant-loop-sort : goal.invariant-loop-sort
invariant-loop-sort l = (g : Sig) → AreFirstSoFar g l.entries → IsLeft g l.sorts (drop l.sort-index l.sorts) l.weight
