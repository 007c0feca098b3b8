use Rattle.std.proofs.Common.{◌∙◌, map, ap, subst}
use Rattle.std.specs.Prelude.{flat_map}
use Rattle.std.proofs.lemmas.List.{take_all}
use Rattle.process_terms.specs.Meanings.{rule_of}
use Rattle.process_terms.specs.SignatureEntries.{entries_of}
use Rattle.lps_core.specs.PlainLinears.{plain_linear, plain_summand, summand_of}
use Rattle.lps_core.proofs.PoolTrees.{extends_on}
use Rattle.communication.specs.Communicated.{communicated}
use Rattle.communication.specs.GrownSummands.{AreSummands}
use Rattle.communication.proofs.GrowingSummands.{serves_at, serves_still, summand_more}
use Rattle.communication.proofs.around.communicated_summands.Goals as goal

pub add_communicated-requires-clause-fits : goal.add_communicated-requires-clause-fits
add_communicated-requires-clause-fits c =
    let l = plain_linear c.args.lin.now in (
      l.params,
      serves_still c.args.sig.now c.signature_stands.ensures c.args.pool.now.trees c.loop-summand.pool.trees c.loop-summand.invariant.0 l.params (plain_summand c.summand-item.result)
          (serves_at c.args.sig.now c.args.pool.now.trees l c.deref-summand-items.result.now c.loop-summand.summand-index c.summand-item.result c.requires.fits (ap (map plain_summand) c.deref-summand-items.ensures.value) c.loop-summand-test.true c.summand-item.is),
    )

pub loop-summand-preserved : goal.loop-summand-preserved
loop-summand-preserved c =
    let g = c.args.sig.now in
    let l = plain_linear c.args.lin.now in
    let ts = c.args.pool.now.trees in
    let us = c.loop-summand.pool.trees in
    let vs = c.add_communicated.new.pool.trees in
    let own = serves_at g ts l c.deref-summand-items.result.now c.loop-summand.summand-index c.summand-item.result c.requires.fits (ap (map plain_summand) c.deref-summand-items.ensures.value) c.loop-summand-test.true c.summand-item.is in (
      extends_on ts us vs c.loop-summand.invariant.0 c.add_communicated.ensures.kept,
      c.add_communicated.ensures.constants ∙ c.loop-summand.invariant.1,
      summand_more g c.signature_stands.ensures ts us vs c.loop-summand.invariant.0 l.params (map plain_summand c.loop-summand.summands.items) (map plain_summand c.loop-summand.summands.items) (map plain_summand c.add_communicated.new.found.items) c.args.rules.now
          c.deref-summand-items.result.now c.loop-summand.summand-index c.summand-item.result c.loop-summand-test.true c.summand-item.is own c.loop-summand.invariant.2
          (c.in_ok-add_communicated.ensures.added l.params (serves_still g c.signature_stands.ensures ts us c.loop-summand.invariant.0 l.params (plain_summand c.summand-item.result) own)),
    )

pub returns-clause-made : goal.returns-clause-made
returns-clause-made c =
    let g = c.args.sig.now in
    let ts = c.args.pool.now.trees in
    subst (λ z. AreSummands g c.loop-summand.pool.trees (plain_linear c.args.lin.now).params (map plain_summand c.loop-summand.summands.items) (flat_map (communicated (map (rule_of (entries_of g ts)) c.args.rules.now)) (map (summand_of (entries_of g ts)) (map plain_summand z))))
    (take_all c.loop-summand.summand-index c.deref-summand-items.result.now c.loop-summand-test.false ∙ c.deref-summand-items.ensures.value) c.loop-summand.invariant.2
