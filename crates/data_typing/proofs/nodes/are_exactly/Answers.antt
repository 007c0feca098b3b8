use Rattle.std.proofs.Common.{rules, sym, ◌∙◌, arith}
use Rattle.data_typing.specs.Nodes.{sortings}
use Rattle.data_typing.proofs.NodeLemmas.{same_lengths, same_stops, same_goes_on}
use Rattle.data_typing.proofs.nodes.are_exactly.Goals as goal

pub returns-then-arguments-sorts : goal.returns-then-arguments-sorts
returns-then-arguments-sorts c = same_lengths (sortings c.args.nodes.now) c.args.sorts.now c.args.arguments.now (search rules)

pub returns-then-not-is_exactly : goal.returns-then-not-is_exactly
returns-then-not-is_exactly c = same_stops (sortings c.args.nodes.now) c.args.sorts.now c.args.arguments.now c.loop-k.k _ (omega arith) (omega arith) c.loop-k.invariant (sym c.is_exactly.ensures ∙ c.if-not-is_exactly.true)

pub loop-k-preserved : goal.loop-k-preserved
loop-k-preserved c = same_goes_on (sortings c.args.nodes.now) c.args.sorts.now c.args.arguments.now c.loop-k.k _ (omega arith) (omega arith) c.loop-k.invariant (sym c.is_exactly.ensures ∙ c.if-not-is_exactly.false)
