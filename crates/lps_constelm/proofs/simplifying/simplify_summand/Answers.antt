use Rattle.std.proofs.Common.{◌≡◌, rules}
use Rattle.process_terms.specs.PlainProcesses.{plain_label}
use Rattle.lps_core.specs.PlainLinears.{PlainSummand, plain_next, plain_summand}
use Rattle.lps_core.proofs.PoolTrees.{extends_on}
use Rattle.lps_constelm.proofs.RunLoops.{runs_nowhere, label_fine_kept, next_fine_kept}
use Rattle.lps_constelm.proofs.SimplifiedRuns.{one_becomes, two_run, three_run, summand_made}
use Rattle.lps_constelm.proofs.simplifying.simplify_summand.Goals as goal

pub returns-in_err-sums-clause-runs : goal.returns-in_err-sums-clause-runs
returns-in_err-sums-clause-runs g c = runs_nowhere _ _ _ _

pub simplify-requires : goal.simplify-requires
simplify-requires g c = let r = c.requires in (r.0, r.1, r.2, r.3.condition)

pub returns-in_err-cond-clause-runs : goal.returns-in_err-cond-clause-runs
returns-in_err-cond-clause-runs g c = record { kept = c.simplify.ensures.kept; fitting = λ sig own f h. c.simplify.ensures.fitting sig own f h.condition; same = c.simplify.ensures.same }

pub simplify_label-requires : goal.simplify_label-requires
simplify_label-requires g c =
    let r = c.requires in
    let s = plain_summand c.args.summand.now in
    (r.0, r.1, c.simplify.ensures.fitting r.0 r.1 r.2 r.3.condition, label_fine_kept r.0 c.args.pool.now.trees c.simplify.new.pool.trees s.label c.simplify.ensures.kept r.3.label)

pub returns-in_err-label-clause-runs : goal.returns-in_err-label-clause-runs
returns-in_err-label-clause-runs g c =
    two_run c.args.pool.now.trees c.simplify.new.pool.trees c.simplify_label.new.pool.trees (plain_summand c.args.summand.now) (record { kept = c.simplify.ensures.kept; fitting = c.simplify.ensures.fitting; same = c.simplify.ensures.same }) c.simplify_label.ensures.runs

pub simplify_next-requires : goal.simplify_next-requires
simplify_next-requires g c =
    let r = c.requires in
    let s = plain_summand c.args.summand.now in
    let t0 = c.args.pool.now.trees in
    let t1 = c.simplify.new.pool.trees in
    let t2 = c.simplify_label.new.pool.trees in (
      r.0,
      r.1,
      c.simplify_label.ensures.runs.fitting r.0 r.1 (c.simplify.ensures.fitting r.0 r.1 r.2 r.3.condition) (label_fine_kept r.0 t0 t1 s.label c.simplify.ensures.kept r.3.label),
      next_fine_kept r.0 t0 t2 s.next (extends_on t0 t1 t2 c.simplify.ensures.kept c.simplify_label.ensures.runs.kept) r.3.next,
    )

pub returns-in_err-next-clause-runs : goal.returns-in_err-next-clause-runs
returns-in_err-next-clause-runs g c =
    three_run c.args.pool.now.trees c.simplify.new.pool.trees c.simplify_label.new.pool.trees (plain_summand c.args.summand.now) (record { kept = c.simplify.ensures.kept; fitting = c.simplify.ensures.fitting; same = c.simplify.ensures.same }) c.simplify_label.ensures.runs c.simplify_next.new.pool.trees
    c.simplify_next.ensures.runs

pub returns-clause-runs : goal.returns-clause-runs
returns-clause-runs g c =
    three_run c.args.pool.now.trees c.simplify.new.pool.trees c.simplify_label.new.pool.trees (plain_summand c.args.summand.now) (record { kept = c.simplify.ensures.kept; fitting = c.simplify.ensures.fitting; same = c.simplify.ensures.same }) c.simplify_label.ensures.runs c.simplify_next.new.pool.trees
    c.simplify_next.ensures.runs

pub returns-clause-made : goal.returns-clause-made
returns-clause-made g c =
    let s = plain_summand c.args.summand.now in
    let same : c.in_ok-sums.sums.items ≡ c.args.summand.now.sums.items = search rules in
    let new : PlainSummand = record { sums = c.in_ok-sums.sums.items; condition = c.in_ok-cond.cond; label = plain_label c.in_ok-label.label; next = plain_next c.in_ok-next.next } in
    summand_made {f0 = g.S.Simplifier.fits c.args.simp.now} {s0 = g.S.Simplifier.simple c.args.simp.now} c.args.pool.now.trees c.simplify.new.pool.trees c.simplify_label.new.pool.trees s (record { kept = c.simplify.ensures.kept; fitting = c.simplify.ensures.fitting; same = c.simplify.ensures.same }) c.simplify_label.ensures.runs c.simplify_next.new.pool.trees
    c.simplify_next.ensures.runs new same
    (λ sig own f w h. one_becomes sig own _ _ _ _ _ (c.in_ok-cond.ensures.simplified sig own f h) w (c.in_ok-cond.ensures.reached sig own f h)) c.in_ok-label.ensures.made c.in_ok-next.ensures.made
