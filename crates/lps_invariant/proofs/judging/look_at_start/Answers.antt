use Rattle.std.proofs.Common.{◌++◌, ◌∷◌, ◌∙◌, [], ℕ, Option, ap, refl, subst}
use Rattle.std.specs.Prelude.{MatchOption}
use Rattle.data_theory.specs.IdData.{data_meant}
use Rattle.data_rewriter.specs.declared.rewriter.Truth.{Truth}
use Rattle.data_rewriter.specs.Standing.{listed_at, term_at}
use Rattle.lps_core.specs.PlainLinears.{plain_linear}
use Rattle.lps_invariant.specs.Decisions.{IsProvedWhole}
use Rattle.lps_invariant.specs.Judging.{IsFirstOpen}
use Rattle.lps_invariant.specs.Places.{Place}
use Rattle.lps_invariant.proofs.JudgedSummands.{put_there, start_is, start_open}
use Rattle.lps_invariant.proofs.Keepings.{keeps_grown, keeps_then, known_on}
use Rattle.lps_invariant.proofs.judging.look_at_start.Goals as goal

pub returns-in_err-goals-clause-kept : goal.returns-in_err-goals-clause-kept
returns-in_err-goals-clause-kept g c = keeps_grown c.args.sig.now c.args.pool.now.trees c.parts_with.new.pool.trees c.args.rewriter.now c.parts_with.ensures.kept

pub open_goal-requires-clause-known : goal.open_goal-requires-clause-known
open_goal-requires-clause-known g c =
    known_on c.args.sig.now c.args.pool.now.trees c.parts_with.new.pool.trees c.args.rewriter.now c.args.rewriter.now (keeps_grown c.args.sig.now c.args.pool.now.trees c.parts_with.new.pool.trees c.args.rewriter.now c.parts_with.ensures.kept) c.requires.known

pub returns-in_err-part-clause-kept : goal.returns-in_err-part-clause-kept
returns-in_err-part-clause-kept g c =
    keeps_then c.args.sig.now c.args.pool.now.trees c.parts_with.new.pool.trees c.open_goal.new.pool.trees c.args.rewriter.now c.args.rewriter.now c.open_goal.new.rewriter (keeps_grown c.args.sig.now c.args.pool.now.trees c.parts_with.new.pool.trees c.args.rewriter.now c.parts_with.ensures.kept) c.open_goal.ensures.kept

pub returns-in_default-clause-kept : goal.returns-in_default-clause-kept
returns-in_default-clause-kept g c =
    keeps_then c.args.sig.now c.args.pool.now.trees c.parts_with.new.pool.trees c.open_goal.new.pool.trees c.args.rewriter.now c.args.rewriter.now c.open_goal.new.rewriter (keeps_grown c.args.sig.now c.args.pool.now.trees c.parts_with.new.pool.trees c.args.rewriter.now c.parts_with.ensures.kept) c.open_goal.ensures.kept

pub returns-in_err-push-clause-kept : goal.returns-in_err-push-clause-kept
returns-in_err-push-clause-kept g c =
    keeps_then c.args.sig.now c.args.pool.now.trees c.parts_with.new.pool.trees c.open_goal.new.pool.trees c.args.rewriter.now c.args.rewriter.now c.open_goal.new.rewriter (keeps_grown c.args.sig.now c.args.pool.now.trees c.parts_with.new.pool.trees c.args.rewriter.now c.parts_with.ensures.kept) c.open_goal.ensures.kept

pub returns-clause-kept : goal.returns-clause-kept
returns-clause-kept g c =
    keeps_then c.args.sig.now c.args.pool.now.trees c.parts_with.new.pool.trees c.open_goal.new.pool.trees c.args.rewriter.now c.args.rewriter.now c.open_goal.new.rewriter (keeps_grown c.args.sig.now c.args.pool.now.trees c.parts_with.new.pool.trees c.args.rewriter.now c.parts_with.ensures.kept) c.open_goal.ensures.kept

pub returns-in_default-clause-start : goal.returns-in_default-clause-start
returns-in_default-clause-start g c =
    let sig = c.args.sig.now in
    let ts = c.args.pool.now.trees in
    let us = c.parts_with.new.pool.trees in
    let vs = c.open_goal.new.pool.trees in
    let l = plain_linear c.args.lin.now in
    let grown = keeps_grown sig ts us c.args.rewriter.now c.parts_with.ensures.kept in
    let place : Place = record { hypotheses = listed_at sig us c.new.result.items; goals = listed_at sig us c.in_ok-goals.goals.items } in
    λ own h inv are.
    start_is sig ts us l inv c.new.result.items c.in_ok-goals.goals.items c.new.ensures.items (put_there sig ts us c.args.lin.now inv c.in_ok-goals.goals.items c.as_slice-params.result.now c.as_slice.result.now c.as_slice-params.ensures.value c.as_slice.ensures.value (c.in_ok-goals.ensures.put (term_at sig ts inv) are.are)) (IsProvedWhole (data_meant sig) own c.args.fuel)
    (subst (λ (o : Option (ℕ × Truth)). MatchOption o (IsProvedWhole (data_meant sig) own c.args.fuel place) (λ q. IsFirstOpen sig own c.args.fuel vs q.0 q.1 place)) c.in_default.is (c.in_ok-part.ensures.found own (grown.fits own h)))

pub returns-clause-start : goal.returns-clause-start
returns-clause-start g c =
    let sig = c.args.sig.now in
    let ts = c.args.pool.now.trees in
    let us = c.parts_with.new.pool.trees in
    let vs = c.open_goal.new.pool.trees in
    let l = plain_linear c.args.lin.now in
    let grown = keeps_grown sig ts us c.args.rewriter.now c.parts_with.ensures.kept in
    let place : Place = record { hypotheses = listed_at sig us c.new.result.items; goals = listed_at sig us c.in_ok-goals.goals.items } in
    λ own h inv are. (
      refl,
      start_open sig ts us l inv c.new.result.items c.in_ok-goals.goals.items c.new.ensures.items (put_there sig ts us c.args.lin.now inv c.in_ok-goals.goals.items c.as_slice-params.result.now c.as_slice.result.now c.as_slice-params.ensures.value c.as_slice.ensures.value (c.in_ok-goals.ensures.put (term_at sig ts inv) are.are)) own c.args.fuel vs c.in-Some.part c.in-Some.truth c.push.new.self.items
          (c.in_ok-push.ensures.items ∙ ap (λ z. z ++ c.in-Some.truth ∷ []) c.new-truths.ensures.items)
          (subst (λ (o : Option (ℕ × Truth)). MatchOption o (IsProvedWhole (data_meant sig) own c.args.fuel place) (λ q. IsFirstOpen sig own c.args.fuel vs q.0 q.1 place)) c.in-Some.is (c.in_ok-part.ensures.found own (grown.fits own h))),
    )
