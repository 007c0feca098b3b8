use Rattle.std.proofs.Common.{rules, ◌<◌, length, subst, arith}
use Rattle.data_rewriter.specs.Standing.{term_at}
use Rattle.lps_invariant.specs.Judging.{IsTruthFor}
use Rattle.lps_invariant.proofs.DecidedTerms.{answers_more, not_so}
use Rattle.lps_invariant.proofs.Keepings.{keeps_then}
use Rattle.lps_invariant.proofs.deciding.answers.Goals as goal

pub loop-number-preserved : goal.loop-number-preserved
loop-number-preserved g c =
    let sig = c.args.sig.now in
    let ts = c.args.pool.now.trees in
    let us = c.loop-number.pool.trees in
    let vs = c.decided.new.pool.trees in
    let inv = c.loop-number.invariant in
    let ids = c.args.place.now.hypotheses.items in
    let t = c.loop-number-test.true in
    let n = c.len-number-end.ensures in
    let less : c.loop-number.number < length ids = search (rules, arith, t, n) in
    record {
      kept = keeps_then sig ts us vs c.args.rewriter.now c.loop-number.rewriter c.decided.new.rewriter inv.kept c.decided.ensures.kept;
      answered = λ own h.
          answers_more sig own c.args.fuel ts us vs inv.kept.pool c.decided.ensures.kept.pool ids c.loop-number.number c.index.result.now c.loop-number.truths.items c.push.new.self.items c.in_ok-truth.truth less c.requires.place.hypotheses (inv.answered own h)
          (subst (λ z. IsTruthFor sig own c.args.fuel vs (term_at sig us z) c.in_ok-truth.truth) c.index.ensures (c.in_ok-truth.ensures.decided own (inv.kept.fits own h))) (not_so c.is_no.result c.is_no.ensures c.if-is_no.false) c.in_ok-push.ensures.items;
    }
