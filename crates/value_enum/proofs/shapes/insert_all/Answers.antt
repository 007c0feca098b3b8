use Rattle.std.proofs.Common.{subst}
use Rattle.std.proofs.lemmas.List.{take_all}
use Rattle.value_enum.specs.Shapes.{AddsSorts}
use Rattle.value_enum.proofs.SortsUnder.{adds_no_sorts, adds_one_sort}
use Rattle.value_enum.proofs.shapes.insert_all.Goals as goal

pub loop-sort-init : goal.loop-sort-init
loop-sort-init c = adds_no_sorts c.args.sorts.now.keys

pub loop-sort-preserved : goal.loop-sort-preserved
loop-sort-preserved c = adds_one_sort c.args.added.now c.loop-sort.sort-index (record { 0 = 0 }) c.args.sorts.now.keys c.loop-sort.sorts.keys c.insert.new.self.keys c.loop-sort-test.true c.in_ok-insert.ensures.keys c.loop-sort.invariant

pub returns : goal.returns
returns c = subst (λ l. AddsSorts l c.args.sorts.now.keys c.loop-sort.sorts.keys) (take_all c.loop-sort.sort-index c.args.added.now c.loop-sort-test.false) c.loop-sort.invariant
