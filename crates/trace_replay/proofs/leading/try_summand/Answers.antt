use Rattle.std.proofs.Common.{◌∙◌, List, map, refl, sym, subst}
use Rattle.std.specs.List.{All}
use Rattle.std.proofs.lemmas.List.Elements.{All-contains}
use Rattle.data_theory.specs.declared.ids.VarId.{VarId}
use Rattle.data_rewriter.specs.Standing.{term_at}
use Rattle.process_terms.specs.SignatureEntries.{entries_of}
use Rattle.lps_core.specs.Fitting.{IsVariable, SummandFits}
use Rattle.lps_core.specs.PlainLinears.{plain_linear, plain_next, plain_summand, linear_of, summand_of}
use Rattle.lps_simulator.specs.Combinations.{rows}
use Rattle.lps_simulator.proofs.Bindings.{next_stays_over, terms_stay}
use Rattle.lps_simulator.proofs.FittingSummands.{fitting_over}
use Rattle.lps_simulator.proofs.TriedSteps.{values_in_code}
use Rattle.trace_replay.specs.States.{meant_states}
use Rattle.trace_replay.proofs.Keepings.{keeps_grown, keeps_then, known_on}
use Rattle.trace_replay.proofs.StateLemmas.{states_stay}
use Rattle.trace_replay.proofs.TriedWays.{summand_turn}
use Rattle.trace_replay.proofs.leading.try_summand.Goals as goal

pub sum_values-requires : goal.sum_values-requires
sum_values-requires g c =
    subst (λ (xs : List VarId). All (IsVariable c.args.sig.now) xs) (sym c.as_slice.ensures.value)
    (All-contains (SummandFits c.args.sig.now c.args.pool.now.trees c.args.lin.now.params.items) (plain_linear c.args.lin.now).summands (plain_summand c.args.summand.now) c.requires.lin.summands c.requires.summand).sums

pub returns-in_err-lists-clause-kept : goal.returns-in_err-lists-clause-kept
returns-in_err-lists-clause-kept g c = keeps_grown c.args.sig.now c.args.pool.now.trees c.sum_values.new.pool.trees c.args.rewriter.now c.sum_values.ensures.kept

pub try_combinations-requires-clause-known : goal.try_combinations-requires-clause-known
try_combinations-requires-clause-known g c = known_on c.args.sig.now c.args.pool.now.trees c.sum_values.new.pool.trees c.args.rewriter.now c.args.rewriter.now (keeps_grown c.args.sig.now c.args.pool.now.trees c.sum_values.new.pool.trees c.args.rewriter.now c.sum_values.ensures.kept) c.requires.known

pub try_combinations-requires-clause-conditions : goal.try_combinations-requires-clause-conditions
try_combinations-requires-clause-conditions g c = terms_stay c.args.sig.now c.args.pool.now.trees c.sum_values.new.pool.trees c.args.conditions.now c.sum_values.ensures.kept c.requires.conditions

pub try_combinations-requires-clause-next : goal.try_combinations-requires-clause-next
try_combinations-requires-clause-next g c =
    next_stays_over c.args.sig.now c.args.pool.now.trees c.sum_values.new.pool.trees (plain_next c.args.summand.now.next) c.sum_values.ensures.kept
    (fitting_over c.args.sig.now c.signature_stands.ensures c.args.pool.now.trees (plain_linear c.args.lin.now) (plain_summand c.args.summand.now) c.requires.lin c.requires.summand).next

pub try_combinations-requires-clause-state : goal.try_combinations-requires-clause-state
try_combinations-requires-clause-state g c = terms_stay c.args.sig.now c.args.pool.now.trees c.sum_values.new.pool.trees c.args.state.now c.sum_values.ensures.kept c.requires.state

pub try_combinations-requires-clause-lists : goal.try_combinations-requires-clause-lists
try_combinations-requires-clause-lists g c = (values_in_code c.args.sig.now c.args.bound c.sum_values.new.pool.trees c.as_slice.result.now c.args.summand.now.sums.items c.in_ok-lists.field-0.lists c.in_ok-lists.field-0.lists c.in_ok-lists.field-0.cut c.in_ok-lists.field-0.cut c.as_slice.ensures.value refl refl c.in_ok-lists.ensures.listed).closed

pub try_combinations-requires-clause-states : goal.try_combinations-requires-clause-states
try_combinations-requires-clause-states g c = states_stay c.args.sig.now c.args.pool.now.trees c.sum_values.new.pool.trees c.sum_values.ensures.kept c.args.to.now c.requires.states

pub returns-in_err-is_open-clause-kept : goal.returns-in_err-is_open-clause-kept
returns-in_err-is_open-clause-kept g c =
    keeps_then c.args.sig.now c.args.pool.now.trees c.sum_values.new.pool.trees c.try_combinations.new.pool.trees c.args.rewriter.now c.args.rewriter.now c.try_combinations.new.rewriter
    (keeps_grown c.args.sig.now c.args.pool.now.trees c.sum_values.new.pool.trees c.args.rewriter.now c.sum_values.ensures.kept) c.try_combinations.ensures.kept

pub returns-clause-kept : goal.returns-clause-kept
returns-clause-kept g c =
    keeps_then c.args.sig.now c.args.pool.now.trees c.sum_values.new.pool.trees c.try_combinations.new.pool.trees c.args.rewriter.now c.args.rewriter.now c.try_combinations.new.rewriter
    (keeps_grown c.args.sig.now c.args.pool.now.trees c.sum_values.new.pool.trees c.args.rewriter.now c.sum_values.ensures.kept) c.try_combinations.ensures.kept

pub returns-clause-tried : goal.returns-clause-tried
returns-clause-tried g c = λ own h.
    summand_turn c.args.sig.now c.signature_stands.ensures own c.args.fuel c.args.bound c.args.pool.now.trees c.sum_values.new.pool.trees c.sum_values.ensures.kept (plain_linear c.args.lin.now) c.requires.lin (plain_summand c.args.summand.now) c.requires.summand c.args.conditions.now c.requires.conditions c.args.state.now c.requires.state
    (rows c.in_ok-lists.field-0.lists.items) c.in_ok-lists.field-0.cut
    (values_in_code c.args.sig.now c.args.bound c.sum_values.new.pool.trees c.as_slice.result.now c.args.summand.now.sums.items c.in_ok-lists.field-0.lists c.in_ok-lists.field-0.lists c.in_ok-lists.field-0.cut c.in_ok-lists.field-0.cut c.as_slice.ensures.value refl refl c.in_ok-lists.ensures.listed)
    c.args.to.now c.requires.states (meant_states c.args.sig.now c.try_combinations.new.pool.trees c.try_combinations.new.to) c.in_ok-is_open.is_open c.either.result c.either.ensures
    (c.in_ok-is_open.ensures.tried own c.args.bound ((keeps_grown c.args.sig.now c.args.pool.now.trees c.sum_values.new.pool.trees c.args.rewriter.now c.sum_values.ensures.kept).fits own h))
