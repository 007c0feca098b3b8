use Rattle.std.proofs.Common.{List, [], subst, sym}
use Rattle.std.specs.List.{All}
use Rattle.std.proofs.lemmas.List.Elements.{All-nil}
use Rattle.data_theory.specs.declared.ids.TermId.{TermId}
use Rattle.data_rewriter.specs.Standing.{IsTerm}
use Rattle.trace_replay.specs.DecidedConditions.{answer_of, conditions_with}
use Rattle.trace_replay.specs.Decidings.{ComeOut}
use Rattle.trace_replay.proofs.Keepings.{keeps_grown, keeps_then, known_on}
use Rattle.aut_check.specs.Comparing.{setting}
use Rattle.aut_check.proofs.ClosedTerms.{equal_decided, if_ok_then}
use Rattle.aut_check.proofs.equal_terms.decide_equal.Goals as goal

pub decide_all-requires-clause-known : goal.decide_all-requires-clause-known
decide_all-requires-clause-known g c =
    known_on c.args.sig.now c.args.pool.now.trees c.add_term_equalities.new.pool.trees c.args.rewriter.now c.args.rewriter.now (keeps_grown c.args.sig.now c.args.pool.now.trees c.add_term_equalities.new.pool.trees c.args.rewriter.now c.add_term_equalities.ensures.kept) c.requires.known

pub decide_all-requires-clause-conditions : goal.decide_all-requires-clause-conditions
decide_all-requires-clause-conditions g c = subst (All (IsTerm c.args.sig.now c.add_term_equalities.new.pool.trees)) (sym c.as_slice.ensures.value) c.in_ok-add_term_equalities.ensures.over

pub decide_all-requires-clause-listed : goal.decide_all-requires-clause-listed
decide_all-requires-clause-listed g c = All-nil (IsTerm c.args.sig.now c.add_term_equalities.new.pool.trees)

pub returns-in_err-add_term_equalities-clause-kept : goal.returns-in_err-add_term_equalities-clause-kept
returns-in_err-add_term_equalities-clause-kept g c = keeps_grown c.args.sig.now c.args.pool.now.trees c.add_term_equalities.new.pool.trees c.args.rewriter.now c.add_term_equalities.ensures.kept

pub returns-clause-kept : goal.returns-clause-kept
returns-clause-kept g c =
    keeps_then c.args.sig.now c.args.pool.now.trees c.add_term_equalities.new.pool.trees c.decide_all.new.pool.trees c.args.rewriter.now c.args.rewriter.now c.decide_all.new.rewriter
    (keeps_grown c.args.sig.now c.args.pool.now.trees c.add_term_equalities.new.pool.trees c.args.rewriter.now c.add_term_equalities.ensures.kept) c.decide_all.ensures.kept

pub returns-clause-comes : goal.returns-clause-comes
returns-clause-comes g c = if_ok_then c.decide_all.result (λ a k. λ own h.
    equal_decided c.args.sig.now c.signature_stands.ensures (setting c.args.sig.now own c.args.fuel) c.args.pool.now.trees c.add_term_equalities.new.pool.trees c.args.sorts.now c.args.firsts.now c.args.seconds.now c.add_term_equalities.new.conditions.items c.new-conditions.result.items (answer_of a)
    c.requires.firsts c.requires.seconds c.new-conditions.ensures.items c.in_ok-add_term_equalities.ensures.added
    (subst (λ (ids : List TermId). ComeOut (setting c.args.sig.now own c.args.fuel) (conditions_with c.args.sig.now c.add_term_equalities.new.pool.trees [] ids) (answer_of a)) c.as_slice.ensures.value
    (k own 0 ((keeps_grown c.args.sig.now c.args.pool.now.trees c.add_term_equalities.new.pool.trees c.args.rewriter.now c.add_term_equalities.ensures.kept).fits own h)))) c.decide_all.ensures.comes
