use Rattle.std.proofs.Common.{ℕ, Option, Vec, subst}
use Rattle.std.specs.Prelude.{MatchOption}
use Rattle.std.specs.Global.{Global}
use Rattle.data_theory.specs.IdData.{data_meant}
use Rattle.data_rewriter.specs.declared.rewriter.Truth.{Truth}
use Rattle.lps_invariant.specs.Decisions.{IsProvedWhole, IsRefuted}
use Rattle.lps_invariant.specs.Judging.{AreAnswered, IsFirstOpen}
use Rattle.lps_invariant.specs.PlacesInCode.{place_at}
use Rattle.lps_invariant.proofs.DecidedTerms.{open_with, place_stays, shown_with}
use Rattle.lps_invariant.proofs.deciding.look_at.Goals as goal

pub returns-in_default-2-clause-found : goal.returns-in_default-2-clause-found
returns-in_default-2-clause-found g c =
    let sig = c.args.sig.now in
    let ts = c.args.pool.now.trees in
    let us = c.answers.new.pool.trees in
    let vs = c.open_goal.new.pool.trees in
    let p = place_at sig ts c.args.place.now in
    let same = place_stays sig ts us c.answers.ensures.kept.pool c.args.place.now c.requires.place in
    λ own h.
    shown_with sig own c.args.fuel us vs c.open_goal.ensures.kept.pool p c.in-Some.truths.items
    (subst (λ (o : Option (Vec Truth Global)). MatchOption o (IsRefuted (data_meant sig) own c.args.fuel p) (λ truths. AreAnswered sig own c.args.fuel us p.hypotheses truths.items)) c.in-Some.is (c.in_ok-truths.ensures.answered own h))
    (subst (IsProvedWhole (data_meant sig) own c.args.fuel) same
    (subst (λ (o : Option (ℕ × Truth)). MatchOption o (IsProvedWhole (data_meant sig) own c.args.fuel (place_at sig us c.args.place.now)) (λ q. IsFirstOpen sig own c.args.fuel vs q.0 q.1 (place_at sig us c.args.place.now))) c.in_default-2.is (c.in_ok-part.ensures.found own (c.answers.ensures.kept.fits own h))))

pub returns-clause-found : goal.returns-clause-found
returns-clause-found g c =
    let sig = c.args.sig.now in
    let ts = c.args.pool.now.trees in
    let us = c.answers.new.pool.trees in
    let vs = c.open_goal.new.pool.trees in
    let p = place_at sig ts c.args.place.now in
    let same = place_stays sig ts us c.answers.ensures.kept.pool c.args.place.now c.requires.place in
    λ own h.
    open_with sig own c.args.fuel us vs c.open_goal.ensures.kept.pool p c.in-Some.truths.items c.push.new.self.items c.in-Some-2.part c.in-Some-2.truth
    (subst (λ (o : Option (Vec Truth Global)). MatchOption o (IsRefuted (data_meant sig) own c.args.fuel p) (λ truths. AreAnswered sig own c.args.fuel us p.hypotheses truths.items)) c.in-Some.is (c.in_ok-truths.ensures.answered own h))
    (subst (IsFirstOpen sig own c.args.fuel vs c.in-Some-2.part c.in-Some-2.truth) same
    (subst (λ (o : Option (ℕ × Truth)). MatchOption o (IsProvedWhole (data_meant sig) own c.args.fuel (place_at sig us c.args.place.now)) (λ q. IsFirstOpen sig own c.args.fuel vs q.0 q.1 (place_at sig us c.args.place.now))) c.in-Some-2.is (c.in_ok-part.ensures.found own (c.answers.ensures.kept.fits own h))))
    c.in_ok-push.ensures.items
