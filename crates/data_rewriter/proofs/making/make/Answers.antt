use Rattle.std.proofs.Common.{sym, subst}
use Rattle.data_theory.specs.Terms as terms
use Rattle.data_theory.specs.Terms.{Term, Terms, apply, more, none, natural}
use Rattle.data_rewriter.specs.Standing.{StandsFor}
use Rattle.data_rewriter.proofs.Standings.{stands_still_for}
use Rattle.data_rewriter.proofs.FixedFunctions.{not_at, and_at, or_at}
use Rattle.std.proofs.lemmas.Result.{IfOk-weaker}
use Rattle.data_rewriter.specs.FirstLines.{RightIs}
use Rattle.data_rewriter.proofs.making.make.Goals as goal

pub returns-in-Is-clause-made : goal.returns-in-Is-clause-made
returns-in-Is-clause-made c = λ sig tables t r. subst (λ x. RightIs sig c.args.pool.now.trees x t) c.in-Is.is r

pub returns-in-Truth-clause-made : goal.returns-in-Truth-clause-made
returns-in-Truth-clause-made c = IfOk-weaker c.truth.result _ _ (λ id made sig tables t r.
    let h = subst (λ x. RightIs sig c.args.pool.now.trees x t) c.in-Truth.is r in
    subst (StandsFor sig c.truth.new.pool.trees id) (sym h) (made sig tables.signature)) c.truth.ensures.made

pub returns-in-Numeral-clause-made : goal.returns-in-Numeral-clause-made
returns-in-Numeral-clause-made c = IfOk-weaker c.numeral.result _ _ (λ id made sig tables t r.
    let h = subst (λ x. RightIs sig c.args.pool.now.trees x t) c.in-Numeral.is r in
    subst (StandsFor sig c.numeral.new.pool.trees id) (sym h.2) (made sig h.0 h.1)) c.numeral.ensures.made

pub returns-in-Not-clause-made : goal.returns-in-Not-clause-made
returns-in-Not-clause-made c = IfOk-weaker c.one.result _ _ (λ id made sig tables t r.
    let h = subst (λ x. RightIs sig c.args.pool.now.trees x t) c.in-Not.is r in
    subst (StandsFor sig c.one.new.pool.trees id) (sym h.2) (made sig tables.signature.table terms.negation h.0 (not_at sig tables.signature) h.1)) c.one.ensures.made

pub returns-in-One-clause-made : goal.returns-in-One-clause-made
returns-in-One-clause-made c = IfOk-weaker c.one-in-One.result _ _ (λ id made sig tables t r.
    let h = subst (λ x. RightIs sig c.args.pool.now.trees x t) c.in-One.is r in
    subst (StandsFor sig c.one-in-One.new.pool.trees id) (sym h.4) (made sig tables.signature.table h.0 h.1 h.2 h.3)) c.one-in-One.ensures.made

pub returns-in-Two-clause-made : goal.returns-in-Two-clause-made
returns-in-Two-clause-made c = IfOk-weaker c.two-in-Two.result _ _ (λ id made sig tables t r.
    let h = subst (λ x. RightIs sig c.args.pool.now.trees x t) c.in-Two.is r in
    subst (StandsFor sig c.two-in-Two.new.pool.trees id) (sym h.6) (made sig tables.signature.table h.0 h.1 h.2 h.3 h.4 h.5)) c.two-in-Two.ensures.made

pub returns-in-TwoOne-clause-made : goal.returns-in-TwoOne-clause-made
returns-in-TwoOne-clause-made c = IfOk-weaker c.two_one.result _ _ (λ id made sig tables t r.
    let h = subst (λ x. RightIs sig c.args.pool.now.trees x t) c.in-TwoOne.is r in
    subst (StandsFor sig c.two_one.new.pool.trees id) (sym h.8) (made sig tables.signature.table h.0 h.1 h.2 h.3 h.4 h.5 h.6 h.7)) c.two_one.ensures.made

pub returns-in-TwoTwo-clause-made : goal.returns-in-TwoTwo-clause-made
returns-in-TwoTwo-clause-made c = IfOk-weaker c.two_two.result _ _ (λ id made sig tables t r.
    let h = subst (λ x. RightIs sig c.args.pool.now.trees x t) c.in-TwoTwo.is r in
    subst (StandsFor sig c.two_two.new.pool.trees id) (sym h.10) (made sig tables.signature.table h.0 h.1 h.2 h.3 h.4 h.5 h.6 h.7 h.8 h.9)) c.two_two.ensures.made

pub returns-in-Both-clause-made : goal.returns-in-Both-clause-made
returns-in-Both-clause-made c = IfOk-weaker c.two_twos.result _ _ (λ id made sig tables t r.
    let h = subst (λ x. RightIs sig c.args.pool.now.trees x t) c.in-Both.is r in
    subst (StandsFor sig c.two_twos.new.pool.trees id) (sym h.12) (made sig tables.signature.table terms.conjunction h.0 h.1 h.2 h.3 h.4 h.5 (and_at sig tables.signature) h.6 h.7 h.8 h.9 h.10 h.11)) c.two_twos.ensures.made

pub returns-in-Either-clause-made : goal.returns-in-Either-clause-made
returns-in-Either-clause-made c = IfOk-weaker c.two_twos-in-Either.result _ _ (λ id made sig tables t r.
    let h = subst (λ x. RightIs sig c.args.pool.now.trees x t) c.in-Either.is r in
    subst (StandsFor sig c.two_twos-in-Either.new.pool.trees id) (sym h.12) (made sig tables.signature.table terms.disjunction h.0 h.1 h.2 h.3 h.4 h.5 (or_at sig tables.signature) h.6 h.7 h.8 h.9 h.10 h.11)) c.two_twos-in-Either.ensures.made

pub returns-in-Longer-clause-made : goal.returns-in-Longer-clause-made
returns-in-Longer-clause-made c = IfOk-weaker c.longer.result _ _ (λ id made sig tables t r.
    let h = subst (λ x. RightIs sig c.args.pool.now.trees x t) c.in-Longer.is r in
    subst (StandsFor sig c.longer.new.pool.trees id) (sym h.4) (made sig tables.signature h.0 h.1 h.2 h.3)) c.longer.ensures.made

pub returns-in-Later-clause-made : goal.returns-in-Later-clause-made
returns-in-Later-clause-made c = IfOk-weaker c.later.result _ _ (λ id made sig tables t r.
    let h = subst (λ x. RightIs sig c.args.pool.now.trees x t) c.in-Later.is r in
    subst (StandsFor sig c.later.new.pool.trees id) (sym h.6) (made sig tables.signature h.0 h.1 h.2 h.3 h.4 h.5)) c.later.ensures.made

pub returns-in-Places-clause-made : goal.returns-in-Places-clause-made
returns-in-Places-clause-made c = IfOk-weaker c.places.result _ _ (λ id made sig tables t r.
    let h = subst (λ x. RightIs sig c.args.pool.now.trees x t) c.in-Places.is r in
    subst (StandsFor sig c.places.new.pool.trees id) (sym h.6) (made sig tables h.0 h.1 h.2 h.3 h.4 h.5)) c.places.ensures.made

pub returns-in_ok-inner-in-NotTwo-clause-made : goal.returns-in_ok-inner-in-NotTwo-clause-made
returns-in_ok-inner-in-NotTwo-clause-made c = IfOk-weaker c.one-in-NotTwo.result _ _ (λ id made sig tables t r.
    let h = subst (λ x. RightIs sig c.args.pool.now.trees x t) c.in-NotTwo.is r in
    subst (StandsFor sig c.one-in-NotTwo.new.pool.trees id) (sym h.6) (made sig tables.signature.table terms.negation _ (not_at sig tables.signature) (c.in_ok-inner-in-NotTwo.ensures.made sig tables.signature.table h.0 h.1 h.2 h.3 h.4 h.5))) c.one-in-NotTwo.ensures.made

pub returns-in_ok-inner-in-NotOr-clause-made : goal.returns-in_ok-inner-in-NotOr-clause-made
returns-in_ok-inner-in-NotOr-clause-made c = IfOk-weaker c.two-in-NotOr.result _ _ (λ id made sig tables t r.
    let h = subst (λ x. RightIs sig c.args.pool.now.trees x t) c.in-NotOr.is r in
    let y = stands_still_for sig c.args.pool.now.trees c.one-in-NotOr.new.pool.trees c.in_ok-inner-in-NotOr.ensures.kept c.in-NotOr.y h.1 h.3 in
    subst (StandsFor sig c.two-in-NotOr.new.pool.trees id) (sym h.4) (made sig tables.signature.table terms.disjunction _ h.1 (or_at sig tables.signature) (c.in_ok-inner-in-NotOr.ensures.made sig tables.signature.table terms.negation h.0 (not_at sig tables.signature) h.2) y)) c.two-in-NotOr.ensures.made
