use Rattle.std.proofs.Common.{◌+◌, List, map, take, refl, subst}
use Rattle.lps_core.specs.PlainLinears.{PlainSummand, plain_linear, plain_summand}
use Rattle.lps_invariant.specs.declared.deciding.Found.TheVariants.{Contradictory, Shown, Open}
use Rattle.lps_invariant.specs.Judging.{plain_truths}
use Rattle.lps_invariant.proofs.JudgedSummands.{all_summands, invariant_there, looked_at, more_goes, more_stays, none_sifted, one_more_summand, open_summand, sifted_later, summand_fits_there, summand_there, AreSiftedSoFar}
use Rattle.lps_invariant.proofs.Keepings.{keeps_itself, keeps_then, known_on}
use Rattle.lps_invariant.proofs.judging.look_at_summands.Goals as goal

pub loop-index-init : goal.loop-index-init
loop-index-init g c = record {
  kept = keeps_itself c.args.sig.now c.args.pool.now.trees c.args.rewriter.now;
  sifted = λ own h ts i asked. none_sifted c.args.sig.now own c.args.fuel ts c.args.pool.now.trees (plain_linear c.args.lin.now) i c.args.left.now.summands.items c.args.left.now.truths.items c.requires.summands c.requires.truths;
}

pub look_at_summand-requires-clause-known : goal.look_at_summand-requires-clause-known
look_at_summand-requires-clause-known g c = known_on c.args.sig.now c.args.pool.now.trees c.loop-index.pool.trees c.args.rewriter.now c.loop-index.rewriter c.loop-index.invariant.kept c.requires.known

pub look_at_summand-requires-clause-rules : goal.look_at_summand-requires-clause-rules
look_at_summand-requires-clause-rules g c = rw c.loop-index.invariant.kept.rules c.requires.rules

pub look_at_summand-requires-clause-summand : goal.look_at_summand-requires-clause-summand
look_at_summand-requires-clause-summand g c =
    let r = c.requires.asked in
    summand_fits_there c.args.sig.now c.signature_stands.ensures r.0 c.args.pool.now.trees c.loop-index.pool.trees c.args.lin.now r.1 c.args.invariant.now r.2 c.loop-index.invariant.kept.pool c.deref-summand-items.result.now c.loop-index.index c.summand-item.result c.as_slice-params.result.now c.as_slice-params.ensures.value c.deref-summand-items.ensures.value c.loop-index-test.true c.summand-item.is

pub look_at_summand-requires-clause-invariant : goal.look_at_summand-requires-clause-invariant
look_at_summand-requires-clause-invariant g c =
    let r = c.requires.asked in
    invariant_there c.args.sig.now c.signature_stands.ensures r.0 c.args.pool.now.trees c.loop-index.pool.trees c.args.lin.now r.1 c.args.invariant.now r.2 c.loop-index.invariant.kept.pool c.deref-summand-items.result.now c.loop-index.index c.summand-item.result c.as_slice-params.result.now c.as_slice-params.ensures.value c.deref-summand-items.ensures.value c.loop-index-test.true c.summand-item.is

pub returns-in_err-look_at_summand-clause-kept : goal.returns-in_err-look_at_summand-clause-kept
returns-in_err-look_at_summand-clause-kept g c =
    keeps_then c.args.sig.now c.args.pool.now.trees c.loop-index.pool.trees c.look_at_summand.new.pool.trees c.args.rewriter.now c.loop-index.rewriter c.look_at_summand.new.rewriter c.loop-index.invariant.kept c.look_at_summand.ensures.kept

pub returns-in_err-keep-in-Shown-clause-kept : goal.returns-in_err-keep-in-Shown-clause-kept
returns-in_err-keep-in-Shown-clause-kept g c =
    keeps_then c.args.sig.now c.args.pool.now.trees c.loop-index.pool.trees c.look_at_summand.new.pool.trees c.args.rewriter.now c.loop-index.rewriter c.look_at_summand.new.rewriter c.loop-index.invariant.kept c.look_at_summand.ensures.kept

pub loop-index-preserved-in-Contradictory : goal.loop-index-preserved-in-Contradictory
loop-index-preserved-in-Contradictory g c =
    let sig = c.args.sig.now in
    let now = c.args.pool.now.trees in
    let us = c.loop-index.pool.trees in
    let vs = c.look_at_summand.new.pool.trees in
    let inv = c.loop-index.invariant in
    let l = plain_linear c.args.lin.now in
    let all = c.args.lin.now.summands.items in
    let items = c.deref-summand-items.result.now in
    record {
      kept = keeps_then sig now us vs c.args.rewriter.now c.loop-index.rewriter c.look_at_summand.new.rewriter inv.kept c.look_at_summand.ensures.kept;
      sifted = λ own h ts i asked.
          more_goes sig own c.args.fuel ts vs l i (map plain_summand (take c.loop-index.index all)) (map plain_summand c.loop-index.left.summands.items) (plain_truths c.loop-index.left.truths.items) (plain_summand c.summand-item.result) (map plain_summand (take (c.loop-index.index + 1) all))
          (sifted_later sig own c.args.fuel ts us vs c.look_at_summand.ensures.kept.pool l i (map plain_summand (take c.loop-index.index all)) (map plain_summand c.loop-index.left.summands.items) (plain_truths c.loop-index.left.truths.items) (inv.sifted own h ts i asked))
          (looked_at sig c.signature_stands.ensures ts now us c.args.lin.now i c.args.invariant.now asked inv.kept.pool items c.loop-index.index c.summand-item.result c.as_slice-params.result.now c.as_slice-params.ensures.value c.deref-summand-items.ensures.value c.loop-index-test.true c.summand-item.is own c.args.fuel vs _ Contradictory c.in-Contradictory.is (c.in_ok-look_at_summand.ensures.found own (inv.kept.fits own h)))
          (one_more_summand c.deref-summand-items.result.now c.args.lin.now.summands.items c.loop-index.index c.summand-item.result c.deref-summand-items.ensures.value c.loop-index-test.true c.summand-item.is);
    }

pub loop-index-preserved : goal.loop-index-preserved
loop-index-preserved g c =
    let sig = c.args.sig.now in
    let now = c.args.pool.now.trees in
    let us = c.loop-index.pool.trees in
    let vs = c.look_at_summand.new.pool.trees in
    let inv = c.loop-index.invariant in
    let l = plain_linear c.args.lin.now in
    let all = c.args.lin.now.summands.items in
    let items = c.deref-summand-items.result.now in
    record {
      kept = keeps_then sig now us vs c.args.rewriter.now c.loop-index.rewriter c.look_at_summand.new.rewriter inv.kept c.look_at_summand.ensures.kept;
      sifted = λ own h ts i asked.
          more_stays sig own c.args.fuel ts vs l i (map plain_summand (take c.loop-index.index all)) (map plain_summand c.loop-index.left.summands.items) (plain_truths c.loop-index.left.truths.items) (plain_summand c.summand-item.result) c.in-Shown.truths.items (map plain_summand (take (c.loop-index.index + 1) all)) (map plain_summand c.keep.new.left.summands.items) (plain_truths c.keep.new.left.truths.items)
          (sifted_later sig own c.args.fuel ts us vs c.look_at_summand.ensures.kept.pool l i (map plain_summand (take c.loop-index.index all)) (map plain_summand c.loop-index.left.summands.items) (plain_truths c.loop-index.left.truths.items) (inv.sifted own h ts i asked))
          (looked_at sig c.signature_stands.ensures ts now us c.args.lin.now i c.args.invariant.now asked inv.kept.pool items c.loop-index.index c.summand-item.result c.as_slice-params.result.now c.as_slice-params.ensures.value c.deref-summand-items.ensures.value c.loop-index-test.true c.summand-item.is own c.args.fuel vs _ (Shown c.in-Shown.truths) c.in-Shown.is (c.in_ok-look_at_summand.ensures.found own (inv.kept.fits own h)))
          (one_more_summand c.deref-summand-items.result.now c.args.lin.now.summands.items c.loop-index.index c.summand-item.result c.deref-summand-items.ensures.value c.loop-index-test.true c.summand-item.is)
          c.in_ok-keep-in-Shown.ensures.summands c.in_ok-keep-in-Shown.ensures.truths;
    }

pub returns-in-Open-clause-kept : goal.returns-in-Open-clause-kept
returns-in-Open-clause-kept g c =
    keeps_then c.args.sig.now c.args.pool.now.trees c.loop-index.pool.trees c.look_at_summand.new.pool.trees c.args.rewriter.now c.loop-index.rewriter c.look_at_summand.new.rewriter c.loop-index.invariant.kept c.look_at_summand.ensures.kept

pub returns-in-Open-clause-found : goal.returns-in-Open-clause-found
returns-in-Open-clause-found g c =
    let sig = c.args.sig.now in
    let now = c.args.pool.now.trees in
    let us = c.loop-index.pool.trees in
    let vs = c.look_at_summand.new.pool.trees in
    let inv = c.loop-index.invariant in
    let l = plain_linear c.args.lin.now in
    let all = c.args.lin.now.summands.items in
    let items = c.deref-summand-items.result.now in
    λ own h ts i asked.
    open_summand sig own c.args.fuel ts vs l i all (map plain_summand c.loop-index.left.summands.items) (plain_truths c.loop-index.left.truths.items) c.loop-index.index (plain_summand c.summand-item.result) c.in-Open.part c.in-Open.truths.items refl
    (sifted_later sig own c.args.fuel ts us vs c.look_at_summand.ensures.kept.pool l i (map plain_summand (take c.loop-index.index all)) (map plain_summand c.loop-index.left.summands.items) (plain_truths c.loop-index.left.truths.items) (inv.sifted own h ts i asked))
    (summand_there c.deref-summand-items.result.now c.args.lin.now.summands.items c.loop-index.index c.summand-item.result c.deref-summand-items.ensures.value c.loop-index-test.true c.summand-item.is)
    (looked_at sig c.signature_stands.ensures ts now us c.args.lin.now i c.args.invariant.now asked inv.kept.pool items c.loop-index.index c.summand-item.result c.as_slice-params.result.now c.as_slice-params.ensures.value c.deref-summand-items.ensures.value c.loop-index-test.true c.summand-item.is own c.args.fuel vs _ (Open c.in-Open.part c.in-Open.truths) c.in-Open.is (c.in_ok-look_at_summand.ensures.found own (inv.kept.fits own h)))

pub returns-clause-found : goal.returns-clause-found
returns-clause-found g c = λ own h ts i asked.
    subst (λ (z : List PlainSummand). AreSiftedSoFar c.args.sig.now own c.args.fuel ts c.loop-index.pool.trees (plain_linear c.args.lin.now) i z (map plain_summand c.loop-index.left.summands.items) (plain_truths c.loop-index.left.truths.items))
    (all_summands c.deref-summand-items.result.now c.args.lin.now.summands.items c.loop-index.index c.deref-summand-items.ensures.value c.loop-index-test.false) (c.loop-index.invariant.sifted own h ts i asked)
