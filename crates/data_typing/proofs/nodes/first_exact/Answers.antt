use Rattle.std.proofs.Common.{map, sym, ap, ◌∙◌, arith}
use Rattle.data_typing.specs.FlatSorts.{flat_sort}
use Rattle.data_typing.specs.Sortings.{all_same}
use Rattle.data_typing.specs.Nodes.{sortings_at, sortings}
use Rattle.data_typing.proofs.NodeLemmas.{exact_stops, exact_goes_on}
use Rattle.data_typing.proofs.nodes.first_exact.Goals as goal

pub returns-then-are_exactly : goal.returns-then-are_exactly
returns-then-are_exactly c = exact_stops (sortings_at (sortings c.args.nodes.now) c.args.arguments.now) c.args.signatures.now c.loop-signature.signature-index c.signature-item.result (omega arith) c.signature-item.is c.loop-signature.invariant (ap (λ ss. all_same (map flat_sort ss) (sortings_at (sortings c.args.nodes.now) c.args.arguments.now)) (sym c.deref.ensures.value) ∙ sym c.are_exactly.ensures ∙ c.if-are_exactly.true)

pub loop-signature-preserved : goal.loop-signature-preserved
loop-signature-preserved c = exact_goes_on (sortings_at (sortings c.args.nodes.now) c.args.arguments.now) c.args.signatures.now c.loop-signature.signature-index c.signature-item.result (omega arith) c.signature-item.is c.loop-signature.invariant (ap (λ ss. all_same (map flat_sort ss) (sortings_at (sortings c.args.nodes.now) c.args.arguments.now)) (sym c.deref.ensures.value) ∙ sym c.are_exactly.ensures ∙ c.if-are_exactly.false)
