use Rattle.std.proofs.Common.{◌+◌, Bool, List, get_or, inl, inr, refl, sym, subst, take}
use Rattle.std.proofs.lemmas.List.{take_all}
use Rattle.data_theory.specs.declared.ids.TermId.{TermId}
use Rattle.trace_replay.specs.Decidings.{ComeOut}
use Rattle.trace_replay.specs.DecidedConditions.{conditions_with, setting}
use Rattle.std.proofs.lemmas.List.Elements.{All-get_or}
use Rattle.term_pool.specs.Bindings.{listed_terms}
use Rattle.data_theory.specs.Rewriting.{no_decided, spent, stuck, yes_decided, IsDecided}
use Rattle.data_theory.specs.IdData.{data_meant}
use Rattle.data_theory.specs.Environments.{term_in}
use Rattle.data_theory.specs.Terms.{put}
use Rattle.data_rewriter.specs.Standing.{term_at, IsTerm}
use Rattle.data_rewriter.proofs.Standings.{term_stays}
use Rattle.lps_simulator.specs.Rewritten.{decision_of, environment_of}
use Rattle.lps_simulator.proofs.Bindings.{terms_stay}
use Rattle.trace_replay.proofs.ConditionLemmas.{HaveNoNo, decided_first, no_turn, open_turn, without_no_come_out, yes_turn}
use Rattle.trace_replay.proofs.Keepings.{keeps_itself, keeps_then, known_on}
use Rattle.trace_replay.proofs.deciding.decide_all.Goals as goal
use Rattle.trace_replay.proofs.deciding.decide_all.Goals.{in-Stuck, in-Spent}

pub loop-condition-init : goal.loop-condition-init
loop-condition-init g c = record { kept = keeps_itself c.args.sig.now c.args.pool.now.trees c.args.rewriter.now; so_far = λ own bound h. tt }

pub decide_with-requires-clause-known : goal.decide_with-requires-clause-known
decide_with-requires-clause-known g c = known_on c.args.sig.now c.args.pool.now.trees c.loop-condition.pool.trees c.args.rewriter.now c.loop-condition.rewriter c.loop-condition.invariant.kept c.requires.known

pub decide_with-requires-clause-rules : goal.decide_with-requires-clause-rules
decide_with-requires-clause-rules g c = rw c.loop-condition.invariant.kept.rules c.requires.rules

pub decide_with-requires-clause-term : goal.decide_with-requires-clause-term
decide_with-requires-clause-term g c =
    term_stays c.args.sig.now c.args.pool.now.trees c.loop-condition.pool.trees c.loop-condition.invariant.kept.pool _ (All-get_or (IsTerm c.args.sig.now c.args.pool.now.trees) c.args.conditions.now c.loop-condition.condition-index (record { 0 = 0 }) c.loop-condition-test.true c.requires.conditions)

pub decide_with-requires-clause-listed : goal.decide_with-requires-clause-listed
decide_with-requires-clause-listed g c = terms_stay c.args.sig.now c.args.pool.now.trees c.loop-condition.pool.trees (listed_terms c.args.by.now) c.loop-condition.invariant.kept.pool c.requires.listed

pub loop-condition-preserved-in-Yes : goal.loop-condition-preserved-in-Yes
loop-condition-preserved-in-Yes g c = record {
  kept = keeps_then c.args.sig.now c.args.pool.now.trees c.loop-condition.pool.trees c.decide_with.new.pool.trees c.args.rewriter.now c.loop-condition.rewriter c.decide_with.new.rewriter c.loop-condition.invariant.kept (record { pool = c.decide_with.ensures.kept; rules = c.decide_with.ensures.rules; fits = c.decide_with.ensures.fits });
  so_far = λ own bound h.
      yes_turn c.args.sig.now c.args.pool.now.trees c.loop-condition.pool.trees c.args.by.now c.loop-condition.invariant.kept.pool c.requires.listed c.args.conditions.now c.requires.conditions c.loop-condition.condition-index (record { 0 = 0 }) c.loop-condition-test.true own c.args.fuel bound c.loop-condition.is_open (c.loop-condition.invariant.so_far own bound h)
      (decided_first c.args.sig.now c.args.pool.now.trees c.loop-condition.pool.trees c.args.by.now c.loop-condition.invariant.kept.pool c.requires.listed c.args.conditions.now c.requires.conditions c.loop-condition.condition-index (record { 0 = 0 }) c.loop-condition-test.true own c.args.fuel yes_decided (get_or c.args.conditions.now c.loop-condition.condition-index (record { 0 = 0 })) refl (subst (λ z. IsDecided (data_meant c.args.sig.now) own c.args.fuel (put (term_in (environment_of c.args.sig.now c.loop-condition.pool.trees c.args.by.now)) (term_at c.args.sig.now c.loop-condition.pool.trees (get_or c.args.conditions.now c.loop-condition.condition-index (record { 0 = 0 })))) (decision_of z)) c.in-Yes.is (c.in_ok-decide_with.ensures.decided own (c.loop-condition.invariant.kept.fits own h))));
}

pub returns-in-No-clause-comes : goal.returns-in-No-clause-comes
returns-in-No-clause-comes g c = λ own bound h.
    no_turn c.args.sig.now c.args.pool.now.trees c.loop-condition.pool.trees c.args.by.now c.loop-condition.invariant.kept.pool c.requires.listed c.args.conditions.now c.requires.conditions c.loop-condition.condition-index (record { 0 = 0 }) c.loop-condition-test.true own c.args.fuel bound
    (decided_first c.args.sig.now c.args.pool.now.trees c.loop-condition.pool.trees c.args.by.now c.loop-condition.invariant.kept.pool c.requires.listed c.args.conditions.now c.requires.conditions c.loop-condition.condition-index (record { 0 = 0 }) c.loop-condition-test.true own c.args.fuel no_decided (get_or c.args.conditions.now c.loop-condition.condition-index (record { 0 = 0 })) refl (subst (λ z. IsDecided (data_meant c.args.sig.now) own c.args.fuel (put (term_in (environment_of c.args.sig.now c.loop-condition.pool.trees c.args.by.now)) (term_at c.args.sig.now c.loop-condition.pool.trees (get_or c.args.conditions.now c.loop-condition.condition-index (record { 0 = 0 })))) (decision_of z)) c.in-No.is (c.in_ok-decide_with.ensures.decided own (c.loop-condition.invariant.kept.fits own h))))

pub loop-condition-preserved : goal.loop-condition-preserved
loop-condition-preserved g c = record {
  kept = keeps_then c.args.sig.now c.args.pool.now.trees c.loop-condition.pool.trees c.decide_with.new.pool.trees c.args.rewriter.now c.loop-condition.rewriter c.decide_with.new.rewriter c.loop-condition.invariant.kept (record { pool = c.decide_with.ensures.kept; rules = c.decide_with.ensures.rules; fits = c.decide_with.ensures.fits });
  so_far = λ own bound h. elim c.match-branch-2.branch [
    | in-Stuck w ↦ subst (λ (b : Bool). HaveNoNo (setting c.args.sig.now own c.args.fuel bound) (conditions_with c.args.sig.now c.args.pool.now.trees c.args.by.now (take (c.loop-condition.condition-index + 1) c.args.conditions.now)) b) (sym w.is_open-is)
        (open_turn c.args.sig.now c.args.pool.now.trees c.loop-condition.pool.trees c.args.by.now c.loop-condition.invariant.kept.pool c.requires.listed c.args.conditions.now c.requires.conditions c.loop-condition.condition-index (record { 0 = 0 }) c.loop-condition-test.true own c.args.fuel bound c.loop-condition.is_open (c.loop-condition.invariant.so_far own bound h)
        (inl (decided_first c.args.sig.now c.args.pool.now.trees c.loop-condition.pool.trees c.args.by.now c.loop-condition.invariant.kept.pool c.requires.listed c.args.conditions.now c.requires.conditions c.loop-condition.condition-index (record { 0 = 0 }) c.loop-condition-test.true own c.args.fuel stuck (get_or c.args.conditions.now c.loop-condition.condition-index (record { 0 = 0 })) refl (subst (λ z. IsDecided (data_meant c.args.sig.now) own c.args.fuel (put (term_in (environment_of c.args.sig.now c.loop-condition.pool.trees c.args.by.now)) (term_at c.args.sig.now c.loop-condition.pool.trees (get_or c.args.conditions.now c.loop-condition.condition-index (record { 0 = 0 })))) (decision_of z)) w.in-Stuck.is (c.in_ok-decide_with.ensures.decided own (c.loop-condition.invariant.kept.fits own h))))))
    | in-Spent w ↦ subst (λ (b : Bool). HaveNoNo (setting c.args.sig.now own c.args.fuel bound) (conditions_with c.args.sig.now c.args.pool.now.trees c.args.by.now (take (c.loop-condition.condition-index + 1) c.args.conditions.now)) b) (sym w.is_open-is)
        (open_turn c.args.sig.now c.args.pool.now.trees c.loop-condition.pool.trees c.args.by.now c.loop-condition.invariant.kept.pool c.requires.listed c.args.conditions.now c.requires.conditions c.loop-condition.condition-index (record { 0 = 0 }) c.loop-condition-test.true own c.args.fuel bound c.loop-condition.is_open (c.loop-condition.invariant.so_far own bound h)
        (inr (decided_first c.args.sig.now c.args.pool.now.trees c.loop-condition.pool.trees c.args.by.now c.loop-condition.invariant.kept.pool c.requires.listed c.args.conditions.now c.requires.conditions c.loop-condition.condition-index (record { 0 = 0 }) c.loop-condition-test.true own c.args.fuel spent (get_or c.args.conditions.now c.loop-condition.condition-index (record { 0 = 0 })) refl (subst (λ z. IsDecided (data_meant c.args.sig.now) own c.args.fuel (put (term_in (environment_of c.args.sig.now c.loop-condition.pool.trees c.args.by.now)) (term_at c.args.sig.now c.loop-condition.pool.trees (get_or c.args.conditions.now c.loop-condition.condition-index (record { 0 = 0 })))) (decision_of z)) w.in-Spent.is (c.in_ok-decide_with.ensures.decided own (c.loop-condition.invariant.kept.fits own h))))))
  ];
}

pub returns-clause-comes : goal.returns-clause-comes
returns-clause-comes g c = λ own bound h.
    let s = setting c.args.sig.now own c.args.fuel bound in
    subst (λ z. ComeOut s (conditions_with c.args.sig.now c.args.pool.now.trees c.args.by.now c.args.conditions.now) z) (sym c.without_no.ensures)
    (without_no_come_out s (conditions_with c.args.sig.now c.args.pool.now.trees c.args.by.now c.args.conditions.now) c.loop-condition.is_open
    (subst (λ (z : List TermId). HaveNoNo s (conditions_with c.args.sig.now c.args.pool.now.trees c.args.by.now z) c.loop-condition.is_open) (take_all c.loop-condition.condition-index c.args.conditions.now c.loop-condition-test.false) (c.loop-condition.invariant.so_far own bound h)))
