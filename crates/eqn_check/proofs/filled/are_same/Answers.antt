use Rattle.std.proofs.Common.{subst}
use Rattle.eqn_check.specs.Fillings.{ComparesFilled}
use Rattle.eqn_check.proofs.FilledLemmas.{popped_in, compared_left, compared_apart}
use Rattle.eqn_check.proofs.filled.are_same.Goals as goal

pub compare-requires-clause-one : goal.compare-requires-clause-one
compare-requires-clause-one c = (popped_in c.args.sig.now c.args.pool.now.trees c.args.opposites.now c.args.one c.args.other c.in-Some.first c.in-Some.second c.loop.left.items c.pop.new.self.items c.loop.invariant c.in-Some.ensures.items).0

pub compare-requires-clause-other : goal.compare-requires-clause-other
compare-requires-clause-other c = (popped_in c.args.sig.now c.args.pool.now.trees c.args.opposites.now c.args.one c.args.other c.in-Some.first c.in-Some.second c.loop.left.items c.pop.new.self.items c.loop.invariant c.in-Some.ensures.items).1

pub returns-then-not-same : goal.returns-then-not-same
returns-then-not-same c = (
  (λ e. cc),
  (λ a. absurd (compared_apart c.args.sig.now c.args.pool.now.trees c.args.opposites.now c.args.one c.args.other c.in-Some.first c.in-Some.second c.loop.left.items c.pop.new.self.items c.loop.invariant c.in-Some.ensures.items c.compare.new.left.items
      (subst (ComparesFilled c.args.sig.now c.args.pool.now.trees c.args.opposites.now c.in-Some.first c.in-Some.second c.pop.new.self.items c.compare.new.left.items) c.if-not-same.true c.in_ok-same.ensures) a)),
)

pub loop-preserved : goal.loop-preserved
loop-preserved c =
    compared_left c.args.sig.now c.args.pool.now.trees c.args.opposites.now c.args.one c.args.other c.in-Some.first c.in-Some.second c.loop.left.items c.pop.new.self.items c.loop.invariant c.in-Some.ensures.items c.compare.new.left.items
    (subst (ComparesFilled c.args.sig.now c.args.pool.now.trees c.args.opposites.now c.in-Some.first c.in-Some.second c.pop.new.self.items c.compare.new.left.items) c.if-not-same.false c.in_ok-same.ensures)
