use Rattle.std.proofs.Common.{◌≡◌, rules}
use Rattle.process_terms.specs.PlainProcesses.{plain_label}
use Rattle.lps_core.specs.PlainLinears.{plain_next, plain_summand}
use Rattle.lps_core.proofs.PoolTrees.{extends_on}
use Rattle.lps_sumelm.proofs.SimplifiedInCode.{one_answer, actions_stay_over, next_stays_over, actions_along, next_along, summand_answer}
use Rattle.lps_sumelm.proofs.simplifying.simplify_summand.Goals as goal

pub simplify_next-requires : goal.simplify_next-requires
simplify_next-requires g c =
    let r = c.requires in
    let s = plain_summand c.args.summand.now in
    let ts = c.args.pool.now.trees in
    let t1 = c.simplify.new.pool.trees in
    let t2 = c.simplify_label.new.pool.trees in (
      r.0,
      r.1,
      c.simplify_label.ensures.fitting r.0 r.1 (c.simplify.ensures.fitting r.0 r.1 r.2 r.3.condition) (actions_stay_over r.0 ts t1 c.simplify.ensures.kept s.label r.3.label),
      next_stays_over r.0 ts t2 (extends_on ts t1 t2 c.simplify.ensures.kept c.simplify_label.ensures.kept) s.next r.3.next,
    )

pub returns-in_err-next-clause-fitting : goal.returns-in_err-next-clause-fitting
returns-in_err-next-clause-fitting g c = λ sig own f over.
    let s = plain_summand c.args.summand.now in
    let ts = c.args.pool.now.trees in
    let t1 = c.simplify.new.pool.trees in
    let t2 = c.simplify_label.new.pool.trees in
    c.simplify_next.ensures.fitting sig own (c.simplify_label.ensures.fitting sig own (c.simplify.ensures.fitting sig own f over.condition) (actions_stay_over sig ts t1 c.simplify.ensures.kept s.label over.label))
    (next_stays_over sig ts t2 (extends_on ts t1 t2 c.simplify.ensures.kept c.simplify_label.ensures.kept) s.next over.next)

pub returns-in_err-to_vec-clause-fitting : goal.returns-in_err-to_vec-clause-fitting
returns-in_err-to_vec-clause-fitting g c = λ sig own f over.
    let s = plain_summand c.args.summand.now in
    let ts = c.args.pool.now.trees in
    let t1 = c.simplify.new.pool.trees in
    let t2 = c.simplify_label.new.pool.trees in
    c.simplify_next.ensures.fitting sig own (c.simplify_label.ensures.fitting sig own (c.simplify.ensures.fitting sig own f over.condition) (actions_stay_over sig ts t1 c.simplify.ensures.kept s.label over.label))
    (next_stays_over sig ts t2 (extends_on ts t1 t2 c.simplify.ensures.kept c.simplify_label.ensures.kept) s.next over.next)

pub returns-clause-fitting : goal.returns-clause-fitting
returns-clause-fitting g c = λ sig own f over.
    let s = plain_summand c.args.summand.now in
    let ts = c.args.pool.now.trees in
    let t1 = c.simplify.new.pool.trees in
    let t2 = c.simplify_label.new.pool.trees in
    c.simplify_next.ensures.fitting sig own (c.simplify_label.ensures.fitting sig own (c.simplify.ensures.fitting sig own f over.condition) (actions_stay_over sig ts t1 c.simplify.ensures.kept s.label over.label))
    (next_stays_over sig ts t2 (extends_on ts t1 t2 c.simplify.ensures.kept c.simplify_label.ensures.kept) s.next over.next)

pub returns-clause-answers : goal.returns-clause-answers
returns-clause-answers g c =
    let sums : c.in_ok-to_vec.field-0.items ≡ c.args.summand.now.sums.items = search rules in
    λ sig own f over fine.
    let s = plain_summand c.args.summand.now in
    let ts = c.args.pool.now.trees in
    let t1 = c.simplify.new.pool.trees in
    let t2 = c.simplify_label.new.pool.trees in
    let t3 = c.simplify_next.new.pool.trees in
    let P = g.S.Simplifier.simple c.args.simp.now sig own in
    let label_over = actions_stay_over sig ts t1 c.simplify.ensures.kept s.label over.label in
    let next_over = next_stays_over sig ts t2 (extends_on ts t1 t2 c.simplify.ensures.kept c.simplify_label.ensures.kept) s.next over.next in
    let f1 = c.simplify.ensures.fitting sig own f over.condition in
    let f2 = c.simplify_label.ensures.fitting sig own f1 label_over in
    summand_answer sig own fine P ts t1 t2 t3 s (record { sums = c.in_ok-to_vec.field-0.items; condition = c.in_ok-cond.cond; label = plain_label c.in_ok-label.label; next = plain_next c.in_ok-next.next }) over c.simplify.ensures.kept c.simplify_label.ensures.kept c.simplify_next.ensures.kept sums
    (one_answer sig own fine P ts t1 s.condition c.in_ok-cond.cond (c.in_ok-cond.ensures.simplified sig own f over.condition) (c.in_ok-cond.ensures.reached sig own f over.condition))
    (actions_along sig own (g.S.Simplifier.simple c.simplify.new.self sig own) P (λ t. (c.simplify.ensures.same sig own t).0) t1 t2 s.label (plain_label c.in_ok-label.label) (c.in_ok-label.ensures.answers sig own f1 label_over fine))
    (next_along sig own (g.S.Simplifier.simple c.simplify_label.new.simp sig own) P (λ t p. (c.simplify.ensures.same sig own t).0 ((c.simplify_label.ensures.same sig own t).0 p)) t2 t3 (c.in_ok-next.ensures.answers sig own f2 next_over fine))
