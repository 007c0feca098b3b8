use Rattle.std.proofs.Common.{◌∙◌, List, map, refl, sym, subst}
use Rattle.std.specs.Prelude.{Option}
use Rattle.data_theory.specs.declared.ids.TermId.{TermId}
use Rattle.term_pool.specs.Bindings.{listed_terms}
use Rattle.lps_core.specs.PlainLinears.{plain_next, plain_summand}
use Rattle.lps_simulator.proofs.Bindings.{next_stays_over, terms_stay}
use Rattle.trace_replay.specs.Decidings.{ComeOut}
use Rattle.trace_replay.specs.DecidedConditions.{answer_of, conditions_with, setting}
use Rattle.trace_replay.specs.States.{plain_states}
use Rattle.trace_replay.proofs.Keepings.{keeps_then, known_on}
use Rattle.trace_replay.proofs.StateLemmas.{states_stay}
use Rattle.trace_replay.proofs.TriedCombinations.{next_stands, states_added, tried_fail, tried_hold, tried_left_open}
use Rattle.trace_replay.proofs.leading.try_with.Goals as goal

pub rewrite_next_with-requires-clause-known : goal.rewrite_next_with-requires-clause-known
rewrite_next_with-requires-clause-known g c = known_on c.args.sig.now c.args.pool.now.trees c.decide_all.new.pool.trees c.args.rewriter.now c.decide_all.new.rewriter c.decide_all.ensures.kept c.requires.known

pub rewrite_next_with-requires-clause-rules : goal.rewrite_next_with-requires-clause-rules
rewrite_next_with-requires-clause-rules g c = rw c.decide_all.ensures.kept.rules c.requires.rules

pub rewrite_next_with-requires-clause-next : goal.rewrite_next_with-requires-clause-next
rewrite_next_with-requires-clause-next g c = next_stays_over c.args.sig.now c.args.pool.now.trees c.decide_all.new.pool.trees (plain_next c.args.summand.now.next) c.decide_all.ensures.kept.pool c.requires.next

pub rewrite_next_with-requires-clause-listed : goal.rewrite_next_with-requires-clause-listed
rewrite_next_with-requires-clause-listed g c = terms_stay c.args.sig.now c.args.pool.now.trees c.decide_all.new.pool.trees (listed_terms c.args.by.now) c.decide_all.ensures.kept.pool c.requires.listed

pub returns-in_err-next-in-Hold-clause-kept : goal.returns-in_err-next-in-Hold-clause-kept
returns-in_err-next-in-Hold-clause-kept g c =
    keeps_then c.args.sig.now c.args.pool.now.trees c.decide_all.new.pool.trees c.rewrite_next_with.new.pool.trees c.args.rewriter.now c.decide_all.new.rewriter c.rewrite_next_with.new.rewriter c.decide_all.ensures.kept
    (record { pool = c.rewrite_next_with.ensures.kept; rules = c.rewrite_next_with.ensures.rules; fits = c.rewrite_next_with.ensures.fits })

pub returns-in_err-insert-in-Hold-clause-kept : goal.returns-in_err-insert-in-Hold-clause-kept
returns-in_err-insert-in-Hold-clause-kept g c =
    keeps_then c.args.sig.now c.args.pool.now.trees c.decide_all.new.pool.trees c.rewrite_next_with.new.pool.trees c.args.rewriter.now c.decide_all.new.rewriter c.rewrite_next_with.new.rewriter c.decide_all.ensures.kept
    (record { pool = c.rewrite_next_with.ensures.kept; rules = c.rewrite_next_with.ensures.rules; fits = c.rewrite_next_with.ensures.fits })

pub returns-in_ok-insert-in-Hold-clause-kept : goal.returns-in_ok-insert-in-Hold-clause-kept
returns-in_ok-insert-in-Hold-clause-kept g c =
    keeps_then c.args.sig.now c.args.pool.now.trees c.decide_all.new.pool.trees c.rewrite_next_with.new.pool.trees c.args.rewriter.now c.decide_all.new.rewriter c.rewrite_next_with.new.rewriter c.decide_all.ensures.kept
    (record { pool = c.rewrite_next_with.ensures.kept; rules = c.rewrite_next_with.ensures.rules; fits = c.rewrite_next_with.ensures.fits })

pub returns-in_ok-insert-in-Hold-clause-states : goal.returns-in_ok-insert-in-Hold-clause-states
returns-in_ok-insert-in-Hold-clause-states g c =
    let r = c.requires.known in
    states_added c.args.sig.now c.rewrite_next_with.new.pool.trees (plain_states c.args.to.now) (plain_states c.insert.new.self) (plain_next c.in_ok-next-in-Hold.next) (λ o i. (c.in_ok-insert-in-Hold.ensures.added o).0 i)
    (states_stay c.args.sig.now c.decide_all.new.pool.trees c.rewrite_next_with.new.pool.trees c.rewrite_next_with.ensures.kept c.args.to.now (states_stay c.args.sig.now c.args.pool.now.trees c.decide_all.new.pool.trees c.decide_all.ensures.kept.pool c.args.to.now c.requires.states))
    (next_stands c.args.sig.now r.0 c.args.fuel _ c.decide_all.new.pool.trees c.rewrite_next_with.new.pool.trees (c.in_ok-next-in-Hold.ensures.rewritten r.0 (c.decide_all.ensures.kept.fits r.0 r.1)))

pub returns-in_ok-insert-in-Hold-clause-tried : goal.returns-in_ok-insert-in-Hold-clause-tried
returns-in_ok-insert-in-Hold-clause-tried g c = λ own bound h.
    tried_hold c.args.sig.now own c.args.fuel bound c.args.pool.now.trees c.decide_all.new.pool.trees c.decide_all.ensures.kept.pool c.args.by.now c.args.conditions.now (plain_summand c.args.summand.now) c.args.to.now c.requires.states c.requires.listed c.requires.next
    c.rewrite_next_with.new.pool.trees c.rewrite_next_with.ensures.kept c.insert.new.self (plain_next c.in_ok-next-in-Hold.next) c.in_ok-insert-in-Hold.ensures.added
    (subst (λ z. ComeOut (setting c.args.sig.now own c.args.fuel bound) (conditions_with c.args.sig.now c.args.pool.now.trees c.args.by.now c.args.conditions.now) (answer_of z)) c.in-Hold.is (c.in_ok-decide_all.ensures.comes own bound h))
    (c.in_ok-next-in-Hold.ensures.rewritten own (c.decide_all.ensures.kept.fits own h))

pub returns-in-Fail-clause-states : goal.returns-in-Fail-clause-states
returns-in-Fail-clause-states g c = states_stay c.args.sig.now c.args.pool.now.trees c.decide_all.new.pool.trees c.decide_all.ensures.kept.pool c.args.to.now c.requires.states

pub returns-in-Fail-clause-tried : goal.returns-in-Fail-clause-tried
returns-in-Fail-clause-tried g c = λ own bound h.
    tried_fail c.args.sig.now own c.args.fuel bound c.args.pool.now.trees c.decide_all.new.pool.trees c.decide_all.ensures.kept.pool c.args.by.now c.args.conditions.now (plain_summand c.args.summand.now) c.args.to.now c.requires.states
    (subst (λ z. ComeOut (setting c.args.sig.now own c.args.fuel bound) (conditions_with c.args.sig.now c.args.pool.now.trees c.args.by.now c.args.conditions.now) (answer_of z)) c.in-Fail.is (c.in_ok-decide_all.ensures.comes own bound h))

pub returns-in-Open-clause-states : goal.returns-in-Open-clause-states
returns-in-Open-clause-states g c = states_stay c.args.sig.now c.args.pool.now.trees c.decide_all.new.pool.trees c.decide_all.ensures.kept.pool c.args.to.now c.requires.states

pub returns-in-Open-clause-tried : goal.returns-in-Open-clause-tried
returns-in-Open-clause-tried g c = λ own bound h.
    tried_left_open c.args.sig.now own c.args.fuel bound c.args.pool.now.trees c.decide_all.new.pool.trees c.decide_all.ensures.kept.pool c.args.by.now c.args.conditions.now (plain_summand c.args.summand.now) c.args.to.now c.requires.states
    (subst (λ z. ComeOut (setting c.args.sig.now own c.args.fuel bound) (conditions_with c.args.sig.now c.args.pool.now.trees c.args.by.now c.args.conditions.now) (answer_of z)) c.in-Open.is (c.in_ok-decide_all.ensures.comes own bound h))
