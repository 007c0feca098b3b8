use Rattle.std.proofs.Common.{ap, arith, not}
use Rattle.data_theory.specs.Sorts.{kind_of}
use Rattle.term_pool.proofs.InhabitedSearch.{marks_on}
use Rattle.term_pool.proofs.inhabited.sorts_at_once.Goals as goal

pub loop-number-preserved : goal.loop-number-preserved
loop-number-preserved c = marks_on c.args.sig.now.sorts c.loop-number.number (kind_of c.kind.result.now) _ _ _ (omega arith) c.kind.ensures.kind c.loop-number.invariant c.in_ok-push.ensures.items (ap not c.has_constructors-made.ensures)
