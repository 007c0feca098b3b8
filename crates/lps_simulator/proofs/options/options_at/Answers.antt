use Rattle.std.proofs.Common.{◌∙◌, List, map, take, refl, subst}
use Rattle.lps_core.specs.PlainLinears.{PlainSummand, plain_linear, plain_summand}
use Rattle.lps_core.proofs.PoolTrees.{extends_itself, extends_on}
use Rattle.lps_simulator.specs.OptionsInCode.{plain_options}
use Rattle.lps_simulator.specs.Trying.{ListsSummand}
use Rattle.lps_simulator.proofs.FittingSummands.{state_stays}
use Rattle.lps_simulator.proofs.SessionLemmas.{linear_stays}
use Rattle.lps_simulator.proofs.TriedSteps.{item_among, item_more, number_is, all_taken}
use Rattle.lps_simulator.proofs.TriedSummands.{SomeOptions, some_none, some_more, some_all}
use Rattle.lps_simulator.proofs.options.options_at.Goals as goal

pub loop-index-init : goal.loop-index-init
loop-index-init g c = record {
  kept = extends_itself c.args.pool.now.trees;
  rules = refl;
  fits = λ own h. h;
  found = λ own h fine. some_none c.args.sig.now own c.args.fuel c.args.bound c.args.pool.now.trees (plain_linear c.args.lin.now) c.args.state.now (plain_options c.nothing-found.result) c.nothing-found.ensures;
}

pub list_summand-requires-clause-known : goal.list_summand-requires-clause-known
list_summand-requires-clause-known g c = let r = c.requires.known in (r.0, c.loop-index.invariant.fits r.0 r.1)

pub list_summand-requires-clause-rules : goal.list_summand-requires-clause-rules
list_summand-requires-clause-rules g c = rw c.loop-index.invariant.rules c.requires.rules

pub list_summand-requires-clause-lin : goal.list_summand-requires-clause-lin
list_summand-requires-clause-lin g c = linear_stays c.args.sig.now c.signature_stands.ensures c.args.pool.now.trees c.loop-index.pool.trees (plain_linear c.args.lin.now) c.loop-index.invariant.kept c.requires.lin

pub list_summand-requires-clause-state : goal.list_summand-requires-clause-state
list_summand-requires-clause-state g c = state_stays c.args.sig.now c.args.pool.now.trees c.loop-index.pool.trees c.loop-index.invariant.kept c.args.lin.now.params.items c.args.state.now c.requires.state

pub list_summand-requires-clause-summand : goal.list_summand-requires-clause-summand
list_summand-requires-clause-summand g c = item_among c.deref-summand-items.result.now c.args.lin.now.summands.items c.loop-index.index c.summand-item.result c.deref-summand-items.ensures.value c.loop-index-test.true c.summand-item.is

pub returns-in_err-list_summand-clause-kept : goal.returns-in_err-list_summand-clause-kept
returns-in_err-list_summand-clause-kept g c = extends_on c.args.pool.now.trees c.loop-index.pool.trees c.list_summand.new.pool.trees c.loop-index.invariant.kept c.list_summand.ensures.kept

pub returns-in_err-list_summand-clause-rules : goal.returns-in_err-list_summand-clause-rules
returns-in_err-list_summand-clause-rules g c = c.list_summand.ensures.rules ∙ c.loop-index.invariant.rules

pub returns-in_err-list_summand-clause-fits : goal.returns-in_err-list_summand-clause-fits
returns-in_err-list_summand-clause-fits g c = λ own h. c.list_summand.ensures.fits own (c.loop-index.invariant.fits own h)

pub loop-index-preserved : goal.loop-index-preserved
loop-index-preserved g c = record {
  kept = extends_on c.args.pool.now.trees c.loop-index.pool.trees c.list_summand.new.pool.trees c.loop-index.invariant.kept c.list_summand.ensures.kept;
  rules = c.list_summand.ensures.rules ∙ c.loop-index.invariant.rules;
  fits = λ own h. c.list_summand.ensures.fits own (c.loop-index.invariant.fits own h);
  found = λ own h fine.
      subst (λ (z : List PlainSummand). SomeOptions c.args.sig.now own c.args.fuel c.args.bound c.args.pool.now.trees c.list_summand.new.pool.trees (plain_linear c.args.lin.now) c.args.state.now z (plain_options c.list_summand.new.found)) (item_more c.deref-summand-items.result.now c.args.lin.now.summands.items c.loop-index.index c.summand-item.result c.deref-summand-items.ensures.value c.loop-index-test.true c.summand-item.is)
      (some_more c.args.sig.now c.signature_stands.ensures own c.args.fuel c.args.bound c.args.pool.now.trees c.loop-index.pool.trees c.list_summand.new.pool.trees c.loop-index.invariant.kept c.list_summand.ensures.kept (plain_linear c.args.lin.now) c.requires.lin c.args.state.now c.requires.state (map plain_summand (take c.loop-index.index c.args.lin.now.summands.items)) (plain_summand c.summand-item.result)
      (item_among c.deref-summand-items.result.now c.args.lin.now.summands.items c.loop-index.index c.summand-item.result c.deref-summand-items.ensures.value c.loop-index-test.true c.summand-item.is)
      (plain_options c.loop-index.found) (plain_options c.list_summand.new.found) (c.loop-index.invariant.found own h fine)
      (subst (λ n. ListsSummand c.args.sig.now own c.args.fuel c.args.bound c.loop-index.pool.trees c.list_summand.new.pool.trees (plain_linear c.args.lin.now) c.args.state.now n (plain_summand c.summand-item.result) (plain_options c.loop-index.found) (plain_options c.list_summand.new.found)) (number_is c.deref-summand-items.result.now c.args.lin.now.summands.items c.loop-index.index c.deref-summand-items.ensures.value c.loop-index-test.true)
      (c.in_ok-list_summand.ensures.listed own (c.loop-index.invariant.fits own h) fine)));
}

pub returns-clause-options : goal.returns-clause-options
returns-clause-options g c = λ own h fine.
    some_all c.args.sig.now own c.args.fuel c.args.bound c.args.pool.now.trees c.loop-index.pool.trees (plain_linear c.args.lin.now) c.args.state.now (plain_options c.loop-index.found)
    (subst (λ (z : List PlainSummand). SomeOptions c.args.sig.now own c.args.fuel c.args.bound c.args.pool.now.trees c.loop-index.pool.trees (plain_linear c.args.lin.now) c.args.state.now z (plain_options c.loop-index.found)) (all_taken c.deref-summand-items.result.now c.args.lin.now.summands.items c.loop-index.index c.deref-summand-items.ensures.value c.loop-index-test.false) (c.loop-index.invariant.found own h fine))

pub returns-clause-moves : goal.returns-clause-moves
returns-clause-moves g c = λ own h fine. (c.loop-index.invariant.found own h fine).stand
