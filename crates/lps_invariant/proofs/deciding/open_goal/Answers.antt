use Rattle.std.proofs.Common.{rules, ◌<◌, ◌≤◌, length, subst, sym, arith}
use Rattle.std.specs.Prelude.{◌↔◌, IsTrue}
use Rattle.std.specs.List.{Contains}
use Rattle.std.proofs.lemmas.List.{length-map}
use Rattle.data_rewriter.specs.Standing.{term_at}
use Rattle.lps_invariant.specs.Judging.{IsTruthFor}
use Rattle.lps_invariant.specs.PlacesInCode.{place_at}
use Rattle.lps_invariant.proofs.DecidedTerms.{all_proved, is_open, not_so, proved_by_answer, proved_by_hypothesis}
use Rattle.lps_invariant.proofs.Keepings.{keeps_then}
use Rattle.lps_invariant.proofs.Sets.{set_tells}
use Rattle.lps_invariant.proofs.deciding.open_goal.Goals as goal

pub loop-number-preserved-then-has_term : goal.loop-number-preserved-then-has_term
loop-number-preserved-then-has_term g c =
    let sig = c.args.sig.now in
    let ts = c.args.pool.now.trees in
    let us = c.loop-number.pool.trees in
    let inv = c.loop-number.invariant in
    let hs = c.args.place.now.hypotheses.items in
    let gs = c.args.place.now.goals.items in
    let t = c.loop-number-test.true in
    let n = c.len-number-end.ensures in
    let less : c.loop-number.number < length gs = search (rules, arith, t, n) in
    let told : IsTrue c.has_term.result ↔ Contains hs c.index-goal.result.now =
    set_tells c.new-known.result.keys c.insert_all.new.set.keys c.as_slice.result.now hs c.new-known.ensures.empty c.as_slice.ensures.value c.in_ok-insert_all.ensures c.has_term.result c.index-goal.result.now c.has_term.ensures in
    record {
      kept = inv.kept;
      proved = λ own h.
          proved_by_hypothesis sig own c.args.fuel ts hs gs c.requires.place.hypotheses c.requires.place.goals c.loop-number.number c.index-goal.result.now less (subst (Contains hs) c.index-goal.ensures (told.0 c.if-has_term.true)) (inv.proved own h);
    }

pub returns-in_err-truth-clause-kept : goal.returns-in_err-truth-clause-kept
returns-in_err-truth-clause-kept g c = keeps_then c.args.sig.now c.args.pool.now.trees c.loop-number.pool.trees c.decided.new.pool.trees c.args.rewriter.now c.loop-number.rewriter c.decided.new.rewriter c.loop-number.invariant.kept c.decided.ensures.kept

pub returns-then-not-is_yes-clause-kept : goal.returns-then-not-is_yes-clause-kept
returns-then-not-is_yes-clause-kept g c = keeps_then c.args.sig.now c.args.pool.now.trees c.loop-number.pool.trees c.decided.new.pool.trees c.args.rewriter.now c.loop-number.rewriter c.decided.new.rewriter c.loop-number.invariant.kept c.decided.ensures.kept

pub returns-then-not-is_yes-clause-found : goal.returns-then-not-is_yes-clause-found
returns-then-not-is_yes-clause-found g c =
    let sig = c.args.sig.now in
    let ts = c.args.pool.now.trees in
    let us = c.loop-number.pool.trees in
    let inv = c.loop-number.invariant in
    let hs = c.args.place.now.hypotheses.items in
    let gs = c.args.place.now.goals.items in
    let t = c.loop-number-test.true in
    let n = c.len-number-end.ensures in
    let less : c.loop-number.number < length gs = search (rules, arith, t, n) in
    let told : IsTrue c.has_term.result ↔ Contains hs c.index-goal.result.now =
    set_tells c.new-known.result.keys c.insert_all.new.set.keys c.as_slice.result.now hs c.new-known.ensures.empty c.as_slice.ensures.value c.in_ok-insert_all.ensures c.has_term.result c.index-goal.result.now c.has_term.ensures in
    λ own h.
    is_open sig own c.args.fuel ts hs gs c.requires.place.hypotheses c.requires.place.goals us c.decided.new.pool.trees inv.kept.pool c.loop-number.number c.index-goal.result.now less c.in_ok-truth.truth
    (subst (λ z. IsTruthFor sig own c.args.fuel c.decided.new.pool.trees (term_at sig us z) c.in_ok-truth.truth) c.index-goal.ensures (c.in_ok-truth.ensures.decided own (inv.kept.fits own h))) (inv.proved own h) c.signature_stands.ensures c.len.ensures.distinct
    (λ i. not_so c.has_term.result told c.if-has_term.false (subst (Contains hs) (sym c.index-goal.ensures) i)) (not_so c.is_yes.result c.is_yes.ensures c.if-not-is_yes.true)

pub loop-number-preserved : goal.loop-number-preserved
loop-number-preserved g c =
    let sig = c.args.sig.now in
    let ts = c.args.pool.now.trees in
    let us = c.loop-number.pool.trees in
    let inv = c.loop-number.invariant in
    let hs = c.args.place.now.hypotheses.items in
    let gs = c.args.place.now.goals.items in
    let t = c.loop-number-test.true in
    let n = c.len-number-end.ensures in
    let less : c.loop-number.number < length gs = search (rules, arith, t, n) in
    record {
      kept = keeps_then sig ts us c.decided.new.pool.trees c.args.rewriter.now c.loop-number.rewriter c.decided.new.rewriter inv.kept c.decided.ensures.kept;
      proved = λ own h.
          proved_by_answer sig own c.args.fuel ts hs gs c.requires.place.hypotheses c.requires.place.goals us c.decided.new.pool.trees inv.kept.pool c.loop-number.number c.index-goal.result.now less c.in_ok-truth.truth
          (subst (λ z. IsTruthFor sig own c.args.fuel c.decided.new.pool.trees (term_at sig us z) c.in_ok-truth.truth) c.index-goal.ensures (c.in_ok-truth.ensures.decided own (inv.kept.fits own h))) (inv.proved own h) (c.is_yes.ensures.0 c.if-not-is_yes.false);
    }

pub returns-clause-found : goal.returns-clause-found
returns-clause-found g c =
    let sig = c.args.sig.now in
    let ts = c.args.pool.now.trees in
    let us = c.loop-number.pool.trees in
    let inv = c.loop-number.invariant in
    let hs = c.args.place.now.hypotheses.items in
    let gs = c.args.place.now.goals.items in
    let t = c.loop-number-test.false in
    let n = c.len-number-end.ensures in
    let all : length (place_at sig ts c.args.place.now).goals ≤ c.loop-number.number = let l = length-map gs (term_at sig ts) in search (rules, arith, t, n, l) in
    λ own h. all_proved sig own c.args.fuel (place_at sig ts c.args.place.now) c.loop-number.number all (inv.proved own h)
