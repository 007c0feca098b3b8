use Rattle.std.proofs.Common.{◌∙◌, List, map, refl, sym, subst}
use Rattle.std.specs.List.{All}
use Rattle.std.proofs.lemmas.List.Elements.{All-contains}
use Rattle.data_theory.specs.declared.ids.VarId.{VarId}
use Rattle.data_rewriter.proofs.Simple.{a_rewriter_stays}
use Rattle.lps_core.specs.Fitting.{IsVariable, SummandFits}
use Rattle.lps_core.specs.PlainLinears.{plain_linear, plain_summand}
use Rattle.lps_core.proofs.PoolTrees.{extends_on}
use Rattle.lps_simulator.specs.Combinations.{rows}
use Rattle.lps_simulator.specs.OptionsInCode.{plain_move, plain_options}
use Rattle.lps_simulator.specs.SumValues.{AreListsFor, AreSumValues}
use Rattle.lps_simulator.proofs.FittingSummands.{state_stays}
use Rattle.lps_simulator.proofs.SessionLemmas.{linear_stays}
use Rattle.lps_simulator.proofs.TriedSteps.{values_in_code}
use Rattle.lps_simulator.proofs.TriedSummands.{lists_one}
use Rattle.lps_simulator.proofs.options.list_summand.Goals as goal

pub sum_values-requires : goal.sum_values-requires
sum_values-requires g c =
    subst (λ (xs : List VarId). All (IsVariable c.args.sig.now) xs) (sym c.as_slice.ensures.value)
    (All-contains (SummandFits c.args.sig.now c.args.pool.now.trees c.args.lin.now.params.items) (plain_linear c.args.lin.now).summands (plain_summand c.args.summand.now) c.requires.lin.summands c.requires.summand).sums

pub returns-in_err-lists-clause-fits : goal.returns-in_err-lists-clause-fits
returns-in_err-lists-clause-fits g c = λ own h. a_rewriter_stays c.args.rewriter.now c.args.sig.now own c.args.pool.now.trees c.sum_values.new.pool.trees c.sum_values.ensures.kept h

pub try_summand-requires-clause-known : goal.try_summand-requires-clause-known
try_summand-requires-clause-known g c = let r = c.requires.known in (r.0, a_rewriter_stays c.args.rewriter.now c.args.sig.now r.0 c.args.pool.now.trees c.sum_values.new.pool.trees c.sum_values.ensures.kept r.1)

pub try_summand-requires-clause-lin : goal.try_summand-requires-clause-lin
try_summand-requires-clause-lin g c = linear_stays c.args.sig.now c.signature_stands.ensures c.args.pool.now.trees c.sum_values.new.pool.trees (plain_linear c.args.lin.now) c.sum_values.ensures.kept c.requires.lin

pub try_summand-requires-clause-state : goal.try_summand-requires-clause-state
try_summand-requires-clause-state g c = state_stays c.args.sig.now c.args.pool.now.trees c.sum_values.new.pool.trees c.sum_values.ensures.kept c.args.lin.now.params.items c.args.state.now c.requires.state

pub try_summand-requires-clause-lists : goal.try_summand-requires-clause-lists
try_summand-requires-clause-lists g c = (values_in_code c.args.sig.now c.args.bound c.sum_values.new.pool.trees c.as_slice.result.now c.args.summand.now.sums.items c.in_ok-lists.field-0.lists c.in_ok-lists.field-0.lists c.in_ok-lists.field-0.cut c.in_ok-lists.field-0.cut c.as_slice.ensures.value refl refl c.in_ok-lists.ensures.listed).closed

pub returns-in_err-why-clause-kept : goal.returns-in_err-why-clause-kept
returns-in_err-why-clause-kept g c = extends_on c.args.pool.now.trees c.sum_values.new.pool.trees c.try_summand.new.pool.trees c.sum_values.ensures.kept c.try_summand.ensures.kept

pub returns-in_err-why-clause-rules : goal.returns-in_err-why-clause-rules
returns-in_err-why-clause-rules g c = c.try_summand.ensures.rules

pub returns-in_err-why-clause-fits : goal.returns-in_err-why-clause-fits
returns-in_err-why-clause-fits g c = λ own h. c.try_summand.ensures.fits own (a_rewriter_stays c.args.rewriter.now c.args.sig.now own c.args.pool.now.trees c.sum_values.new.pool.trees c.sum_values.ensures.kept h)

pub returns-in_err-note_open-clause-kept : goal.returns-in_err-note_open-clause-kept
returns-in_err-note_open-clause-kept g c = extends_on c.args.pool.now.trees c.sum_values.new.pool.trees c.try_summand.new.pool.trees c.sum_values.ensures.kept c.try_summand.ensures.kept

pub returns-in_err-note_open-clause-rules : goal.returns-in_err-note_open-clause-rules
returns-in_err-note_open-clause-rules g c = c.try_summand.ensures.rules

pub returns-in_err-note_open-clause-fits : goal.returns-in_err-note_open-clause-fits
returns-in_err-note_open-clause-fits g c = λ own h. c.try_summand.ensures.fits own (a_rewriter_stays c.args.rewriter.now c.args.sig.now own c.args.pool.now.trees c.sum_values.new.pool.trees c.sum_values.ensures.kept h)

pub returns-in_err-note_cut-clause-kept : goal.returns-in_err-note_cut-clause-kept
returns-in_err-note_cut-clause-kept g c = extends_on c.args.pool.now.trees c.sum_values.new.pool.trees c.try_summand.new.pool.trees c.sum_values.ensures.kept c.try_summand.ensures.kept

pub returns-in_err-note_cut-clause-rules : goal.returns-in_err-note_cut-clause-rules
returns-in_err-note_cut-clause-rules g c = c.try_summand.ensures.rules

pub returns-in_err-note_cut-clause-fits : goal.returns-in_err-note_cut-clause-fits
returns-in_err-note_cut-clause-fits g c = λ own h. c.try_summand.ensures.fits own (a_rewriter_stays c.args.rewriter.now c.args.sig.now own c.args.pool.now.trees c.sum_values.new.pool.trees c.sum_values.ensures.kept h)

pub returns-clause-kept : goal.returns-clause-kept
returns-clause-kept g c = extends_on c.args.pool.now.trees c.sum_values.new.pool.trees c.try_summand.new.pool.trees c.sum_values.ensures.kept c.try_summand.ensures.kept

pub returns-clause-rules : goal.returns-clause-rules
returns-clause-rules g c = c.try_summand.ensures.rules

pub returns-clause-fits : goal.returns-clause-fits
returns-clause-fits g c = λ own h. c.try_summand.ensures.fits own (a_rewriter_stays c.args.rewriter.now c.args.sig.now own c.args.pool.now.trees c.sum_values.new.pool.trees c.sum_values.ensures.kept h)

pub returns-clause-listed : goal.returns-clause-listed
returns-clause-listed g c = λ own h fine.
    lists_one c.args.sig.now c.signature_stands.ensures own c.args.fuel c.args.bound c.args.pool.now.trees c.sum_values.new.pool.trees c.try_summand.new.pool.trees c.sum_values.ensures.kept c.try_summand.ensures.kept (plain_linear c.args.lin.now) c.requires.lin c.args.state.now c.requires.state c.args.number (plain_summand c.args.summand.now) c.requires.summand (rows c.in_ok-lists.field-0.lists.items) c.in_ok-lists.field-0.cut
    (plain_options c.args.found.now) (plain_options (record { moves = c.try_summand.new.moves; undecided = c.note_open.new.undecided; cut = c.note_cut.new.cuts })) (map plain_move c.try_summand.new.moves.items) c.in_ok-why.why
    (values_in_code c.args.sig.now c.args.bound c.sum_values.new.pool.trees c.as_slice.result.now c.args.summand.now.sums.items c.in_ok-lists.field-0.lists c.in_ok-lists.field-0.lists c.in_ok-lists.field-0.cut c.in_ok-lists.field-0.cut c.as_slice.ensures.value refl refl c.in_ok-lists.ensures.listed)
    (c.in_ok-why.ensures.tried own (a_rewriter_stays c.args.rewriter.now c.args.sig.now own c.args.pool.now.trees c.sum_values.new.pool.trees c.sum_values.ensures.kept h) fine) refl c.in_ok-note_open.ensures (let e = c.in_ok-note_cut.ensures in let q = c.in_ok-lists.cut-is in cc)
