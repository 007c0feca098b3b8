use Rattle.std.proofs.Common.{◌∙◌, ap, length, subst, sym}
use Rattle.data_theory.specs.WholeSignatures.{IsSignature}
use Rattle.lps_core.specs.PlainLinears.{plain_linear}
use Rattle.lps_parelm.specs.Uses.{HaveNextTerms}
use Rattle.lps_parelm.proofs.WholeElimination.{if_ok, init_long, next_terms, summands_inside}
use Rattle.lps_constelm.specs.Putting.{IsWithoutUnmarked}
use Rattle.lps_constelm.specs.Rounds.{MarksTheOthers, IsNextRound}
use Rattle.lps_constelm.specs.Runs.{Makes}
use Rattle.lps_constelm.proofs.MeantPutting.{without_fits}
use Rattle.lps_constelm.proofs.SimplifiedRuns.{runs_first_grown}
use Rattle.lps_constelm.proofs.WholeRounds.{is_next_round}
use Rattle.lps_constelm.proofs.eliminating.next_round.Goals as goal

pub without_unmarked-requires-clause-params : goal.without_unmarked-requires-clause-params
without_unmarked-requires-clause-params g c = sym (ap length c.as_slice.ensures.value ∙ c.requires.3.long)

pub without_unmarked-requires-clause-init : goal.without_unmarked-requires-clause-init
without_unmarked-requires-clause-init g c =
    let r = c.requires in
    init_long r.0 c.args.pool.now.trees (plain_linear c.args.round.now.lin) r.3.fits ∙ sym (ap length c.as_slice.ensures.value ∙ r.3.long)

pub without_unmarked-requires-clause-next : goal.without_unmarked-requires-clause-next
without_unmarked-requires-clause-next g c =
    let r = c.requires in
    let l = plain_linear c.args.round.now.lin in
    subst (λ n. HaveNextTerms n l.summands) (sym (ap length c.as_slice.ensures.value ∙ r.3.long)) (next_terms r.0 c.args.pool.now.trees l r.3.fits)

pub without_unmarked-requires-clause-terms : goal.without_unmarked-requires-clause-terms
without_unmarked-requires-clause-terms g c = c.requires.3.fits.init.within

pub without_unmarked-requires-clause-summands : goal.without_unmarked-requires-clause-summands
without_unmarked-requires-clause-summands g c =
    let r = c.requires in
    summands_inside r.0 c.args.pool.now.trees (plain_linear c.args.round.now.lin) r.3.fits

pub returns-in_err-left-clause-runs : goal.returns-in_err-left-clause-runs
returns-in_err-left-clause-runs g c = record {
  kept = c.without_unmarked.ensures.kept;
  fitting = λ sig own f h. c.fits_grown_pools.ensures sig own c.args.pool.now.trees c.without_unmarked.new.pool.trees c.without_unmarked.ensures.kept f;
  same = λ sig own t. (λ p. p, λ p. p);
}

pub first_round-requires : goal.first_round-requires
first_round-requires g c =
    let r = c.requires in
    let ts = c.args.pool.now.trees in
    let us = c.without_unmarked.new.pool.trees in
    let l = plain_linear c.args.round.now.lin in
    let left = plain_linear c.in_ok-left.left in
    let without = subst (λ z. IsWithoutUnmarked ts us z l left) c.as_slice.ensures.value c.in_ok-left.ensures.without in
    let kept = c.without_unmarked.ensures.kept in
    (r.0, r.1, r.2, without_fits r.0 ts us c.args.round.now.marks.items l left r.2 r.3.fits kept r.3.long without, c.fits_grown_pools.ensures r.0 r.1 ts us kept r.4, r.5)

pub returns-clause-runs : goal.returns-clause-runs
returns-clause-runs g c =
    let ts = c.args.pool.now.trees in
    let us = c.without_unmarked.new.pool.trees in
    let l = plain_linear c.args.round.now.lin in
    let left = plain_linear c.in_ok-left.left in
    let marks = c.args.round.now.marks.items in
    let without = subst (λ z. IsWithoutUnmarked ts us z l left) c.as_slice.ensures.value c.in_ok-left.ensures.without in
    let kept = c.without_unmarked.ensures.kept in
    runs_first_grown (λ sig. IsSignature sig × MarksTheOthers sig ts l marks) kept (λ sig own f. c.fits_grown_pools.ensures sig own ts us kept f) c.first_round.ensures.runs (λ sig h. (h.0, without_fits sig ts us marks l left h.0 h.1.fits kept h.1.long without))

pub returns-clause-made : goal.returns-clause-made
returns-clause-made g c =
    let ts = c.args.pool.now.trees in
    let us = c.without_unmarked.new.pool.trees in
    let vs = c.first_round.new.pool.trees in
    let l = plain_linear c.args.round.now.lin in
    let left = plain_linear c.in_ok-left.left in
    let old = c.args.round.now.marks.items in
    let without = subst (λ z. IsWithoutUnmarked ts us z l left) c.as_slice.ensures.value c.in_ok-left.ensures.without in
    let kept = c.without_unmarked.ensures.kept in
    let fits = g.S.Simplifier.fits c.args.simp.now in
    let simple = g.S.Simplifier.simple c.args.simp.now in
    if_ok c.first_round.result _ (λ made. Makes fits simple (λ sig. IsSignature sig × MarksTheOthers sig ts l old) ts (λ sig own P. IsNextRound sig own P ts vs l old (plain_linear made.lin) made.marks.items))
    (λ made first sig own f w h.
    is_next_round sig own (simple sig own) ts us vs l left (plain_linear made.lin) old made.marks.items h.0 h.1.fits h.1.long kept without (first sig own (c.fits_grown_pools.ensures sig own ts us kept f) w (h.0, without_fits sig ts us old l left h.0 h.1.fits kept h.1.long without))) c.first_round.ensures.made
