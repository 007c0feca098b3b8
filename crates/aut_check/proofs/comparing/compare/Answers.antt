use Rattle.std.proofs.Common.{◌<◌, ◌≤◌, ◌∙◌, ap, map, sym, subst, arith}
use Rattle.std.specs.List.{All}
use Rattle.lps_core.specs.Fitting.{sort_of_variable, IsVariable}
use Rattle.lps_core.specs.PlainLinears.{plain_linear}
use Rattle.lps_simulator.proofs.SessionLemmas.{linear_stays}
use Rattle.aut_check.specs.declared.verdicts.StateVerdict.TheVariants as states
use Rattle.aut_check.specs.Comparing.{setting}
use Rattle.aut_check.specs.PlainSystems.{plain_system}
use Rattle.aut_check.proofs.JudgedStates.{none_below, one_below, start_open, start_fails, one_fails, one_is_open, all_are_good, states_long, comes_settled}
use Rattle.trace_replay.proofs.Keepings.{keeps_then}
use Rattle.aut_check.proofs.SettledStates.{system_stays}
use Rattle.aut_check.proofs.SortedEdges.{sources_within}
use Rattle.aut_check.proofs.comparing.compare.Goals as goal

pub sorts_of_variables-requires : goal.sorts_of_variables-requires
sorts_of_variables-requires g c = subst (All (IsVariable c.args.sig.now)) (sym c.as_slice.ensures.value) c.requires.lin.params

pub compare_start-requires-clause-sorts : goal.compare_start-requires-clause-sorts
compare_start-requires-clause-sorts g c = c.as_slice-sorts.ensures.value ∙ c.in_ok-sorts.ensures ∙ ap (map (sort_of_variable c.args.sig.now)) c.as_slice.ensures.value

pub edges_by_source-requires : goal.edges_by_source-requires
edges_by_source-requires g c = sources_within c.args.sig.now c.args.pool.now.trees c.args.lin.now.params.items c.args.lts.now c.requires.system

pub compare_state-requires-clause-sorts : goal.compare_state-requires-clause-sorts
compare_state-requires-clause-sorts g c = c.as_slice-sorts.ensures.value ∙ c.in_ok-sorts.ensures ∙ ap (map (sort_of_variable c.args.sig.now)) c.as_slice.ensures.value

pub returns-in-Open-clause-verdict : goal.returns-in-Open-clause-verdict
returns-in-Open-clause-verdict g c = λ own h fine. start_open (setting c.args.sig.now own c.args.fuel) c.args.pool.now.trees (plain_linear c.args.lin.now) (plain_system c.args.lts.now) c.in_ok-compare_start.field-0 c.in-Open.is (c.in_ok-compare_start.ensures.start own h)

pub returns-in-Fail-clause-verdict : goal.returns-in-Fail-clause-verdict
returns-in-Fail-clause-verdict g c = λ own h fine. start_fails (setting c.args.sig.now own c.args.fuel) c.args.pool.now.trees (plain_linear c.args.lin.now) (plain_system c.args.lts.now) c.in_ok-compare_start.field-0 c.in-Fail.is (c.in_ok-compare_start.ensures.start own h)

pub loop-number-init : goal.loop-number-init
loop-number-init g c = record { kept = c.compare_start.ensures.kept; good = λ own h fine. none_below (setting c.args.sig.now own c.args.fuel) c.args.pool.now.trees (plain_linear c.args.lin.now) (plain_system c.args.lts.now) }

pub compare_state-requires-clause-known : goal.compare_state-requires-clause-known
compare_state-requires-clause-known g c = let r = c.requires.known in (r.0, c.loop-number.invariant.kept.fits r.0 r.1, r.2)

pub compare_state-requires-clause-rules : goal.compare_state-requires-clause-rules
compare_state-requires-clause-rules g c = rw c.loop-number.invariant.kept.rules c.requires.rules

pub compare_state-requires-clause-lin : goal.compare_state-requires-clause-lin
compare_state-requires-clause-lin g c = linear_stays c.args.sig.now c.signature_stands.ensures c.args.pool.now.trees c.loop-number.pool.trees (plain_linear c.args.lin.now) c.loop-number.invariant.kept.pool c.requires.lin

pub compare_state-requires-clause-system : goal.compare_state-requires-clause-system
compare_state-requires-clause-system g c = system_stays c.args.sig.now c.signature_stands.ensures c.args.pool.now.trees c.loop-number.pool.trees c.loop-number.invariant.kept.pool (plain_linear c.args.lin.now).params (plain_system c.args.lts.now) c.requires.system

pub returns-in_err-compare_state-clause-kept : goal.returns-in_err-compare_state-clause-kept
returns-in_err-compare_state-clause-kept g c = keeps_then c.args.sig.now c.args.pool.now.trees c.loop-number.pool.trees c.compare_state.new.pool.trees c.args.rewriter.now c.loop-number.rewriter c.compare_state.new.rewriter c.loop-number.invariant.kept c.compare_state.ensures.kept

pub loop-number-preserved : goal.loop-number-preserved
loop-number-preserved g c = record {
  kept = keeps_then c.args.sig.now c.args.pool.now.trees c.loop-number.pool.trees c.compare_state.new.pool.trees c.args.rewriter.now c.loop-number.rewriter c.compare_state.new.rewriter c.loop-number.invariant.kept c.compare_state.ensures.kept;
  good = λ own h fine.
      one_below (setting c.args.sig.now own c.args.fuel) c.args.pool.now.trees (plain_linear c.args.lin.now) (plain_system c.args.lts.now) c.loop-number.number (c.loop-number.invariant.good own h fine)
      (comes_settled c.args.sig.now c.signature_stands.ensures own c.args.fuel c.args.pool.now.trees c.loop-number.pool.trees c.loop-number.invariant.kept.pool (plain_linear c.args.lin.now) (plain_system c.args.lts.now) c.requires.lin c.requires.system c.loop-number.number c.in_ok-compare_state.field-0 states.Good c.in-Good.is
      (c.in_ok-compare_state.ensures.state own (c.loop-number.invariant.kept.fits own h) fine));
}

pub returns-in-Differs-clause-kept : goal.returns-in-Differs-clause-kept
returns-in-Differs-clause-kept g c = keeps_then c.args.sig.now c.args.pool.now.trees c.loop-number.pool.trees c.compare_state.new.pool.trees c.args.rewriter.now c.loop-number.rewriter c.compare_state.new.rewriter c.loop-number.invariant.kept c.compare_state.ensures.kept

pub returns-in-Differs-clause-verdict : goal.returns-in-Differs-clause-verdict
returns-in-Differs-clause-verdict g c = λ own h fine.
    one_fails (setting c.args.sig.now own c.args.fuel) c.args.pool.now.trees (plain_linear c.args.lin.now) (plain_system c.args.lts.now) c.in_ok-compare_start.field-0 c.in-Hold.is (c.in_ok-compare_start.ensures.start own h) c.loop-number.number
    (subst (λ n. c.loop-number.number < n) (sym (states_long c.args.lts.now.states.items)) (omega (arith, c.loop-number-test.true, c.len-number-end.ensures))) (c.loop-number.invariant.good own h fine)
    (comes_settled c.args.sig.now c.signature_stands.ensures own c.args.fuel c.args.pool.now.trees c.loop-number.pool.trees c.loop-number.invariant.kept.pool (plain_linear c.args.lin.now) (plain_system c.args.lts.now) c.requires.lin c.requires.system c.loop-number.number c.in_ok-compare_state.field-0 states.Differs c.in-Differs.is
    (c.in_ok-compare_state.ensures.state own (c.loop-number.invariant.kept.fits own h) fine))

pub returns-in-Open-2-clause-kept : goal.returns-in-Open-2-clause-kept
returns-in-Open-2-clause-kept g c = keeps_then c.args.sig.now c.args.pool.now.trees c.loop-number.pool.trees c.compare_state.new.pool.trees c.args.rewriter.now c.loop-number.rewriter c.compare_state.new.rewriter c.loop-number.invariant.kept c.compare_state.ensures.kept

pub returns-in-Open-2-clause-verdict : goal.returns-in-Open-2-clause-verdict
returns-in-Open-2-clause-verdict g c = λ own h fine.
    one_is_open (setting c.args.sig.now own c.args.fuel) c.args.pool.now.trees (plain_linear c.args.lin.now) (plain_system c.args.lts.now) c.in_ok-compare_start.field-0 c.in-Hold.is (c.in_ok-compare_start.ensures.start own h) c.loop-number.number
    (subst (λ n. c.loop-number.number < n) (sym (states_long c.args.lts.now.states.items)) (omega (arith, c.loop-number-test.true, c.len-number-end.ensures))) (c.loop-number.invariant.good own h fine)
    (comes_settled c.args.sig.now c.signature_stands.ensures own c.args.fuel c.args.pool.now.trees c.loop-number.pool.trees c.loop-number.invariant.kept.pool (plain_linear c.args.lin.now) (plain_system c.args.lts.now) c.requires.lin c.requires.system c.loop-number.number c.in_ok-compare_state.field-0 states.Open c.in-Open-2.is
    (c.in_ok-compare_state.ensures.state own (c.loop-number.invariant.kept.fits own h) fine))

pub returns-clause-kept : goal.returns-clause-kept
returns-clause-kept g c = c.loop-number.invariant.kept

pub returns-clause-verdict : goal.returns-clause-verdict
returns-clause-verdict g c = λ own h fine.
    all_are_good (setting c.args.sig.now own c.args.fuel) c.args.pool.now.trees (plain_linear c.args.lin.now) (plain_system c.args.lts.now) c.in_ok-compare_start.field-0 c.in-Hold.is (c.in_ok-compare_start.ensures.start own h) c.loop-number.number
    (subst (λ n. n ≤ c.loop-number.number) (sym (states_long c.args.lts.now.states.items)) (omega (arith, c.loop-number-test.false, c.len-number-end.ensures))) (c.loop-number.invariant.good own h fine)
