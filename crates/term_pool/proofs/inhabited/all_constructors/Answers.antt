use Rattle.std.proofs.Common.{arith}
use Rattle.data_theory.specs.Sorts.{kind_of}
use Rattle.term_pool.proofs.InhabitedSearch.{candidates_on}
use Rattle.term_pool.proofs.inhabited.all_constructors.Goals as goal

pub loop-number-preserved : goal.loop-number-preserved
loop-number-preserved c = candidates_on c.args.sig.now.sorts c.loop-number.number (kind_of c.kind.result.now) _ _ _ (omega arith) c.kind.ensures.kind c.loop-number.invariant c.in_ok-push_candidates.ensures c.declared_constructors.ensures
