use Rattle.std.proofs.Common.{◌+◌, ◌≤◌, length, arith, ap₂, sym, ◌∙◌}
use Rattle.summand_expander.proofs.StartingLoops.{alone_more, alone_all}
use Rattle.summand_expander.proofs.starts.count_alone.Goals as goal

pub loop-summand-preserved : goal.loop-summand-preserved
loop-summand-preserved c =
    let few = c.times_alone-count.ensures.few in
    let low = c.loop-summand.invariant.1 in (
      ap₂ (λ x y. x + y) c.loop-summand.invariant.0 c.times_alone-count.ensures.times
          ∙ sym (alone_more c.args.other_ends c.args.own.now c.loop-summand.summand-index c.summand-item.result c.loop-summand-test.true c.summand-item.is),
      omega (arith, few, low),
    )

pub returns : goal.returns
returns c =
    let n = c.loop-summand-test.false in
    let l : length c.args.own.now ≤ c.loop-summand.summand-index = omega (arith, n) in
    c.loop-summand.invariant.0 ∙ alone_all c.args.other_ends c.args.own.now c.loop-summand.summand-index l
