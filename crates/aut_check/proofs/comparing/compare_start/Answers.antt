use Rattle.std.proofs.Common.{◌<◌, List, arith, length, refl, subst, sym}
use Rattle.std.specs.List.{All}
use Rattle.std.proofs.lemmas.List.{length-map}
use Rattle.data_theory.specs.declared.ids.SortId.{SortId}
use Rattle.data_theory.specs.declared.ids.TermId.{TermId}
use Rattle.lps_core.specs.PlainLinears.{plain_linear, plain_next}
use Rattle.trace_replay.specs.DecidedConditions.{answer_of}
use Rattle.aut_check.specs.Comparing.{setting, AreClosed}
use Rattle.aut_check.proofs.ClosedTerms.{if_ok_then, sorts_within, state_closed}
use Rattle.aut_check.proofs.ComparedPairs.{terms_decided}
use Rattle.aut_check.proofs.RunningStates.{terms_there}
use Rattle.aut_check.proofs.Starts.{start_compared, start_ended}
use Rattle.aut_check.proofs.comparing.compare_start.Goals as goal

pub index-requires : goal.index-requires
index-requires g c = omega (arith, c.requires.system.first, length-map c.args.lts.now.states.items plain_next, c.args.lts.now.states.ok.0)

pub returns-in-None-clause-start : goal.returns-in-None-clause-start
returns-in-None-clause-start g c = λ own h.
    let inside : c.args.lts.now.first < length c.args.lts.now.states.items = omega (arith, c.requires.system.first, length-map c.args.lts.now.states.items plain_next) in
    start_ended (setting c.args.sig.now own c.args.fuel) c.args.pool.now.trees (plain_linear c.args.lin.now) c.args.lts.now c.index.result.now inside c.index.ensures c.in-None.is

pub decide_equal-requires-clause-sorts : goal.decide_equal-requires-clause-sorts
decide_equal-requires-clause-sorts g c = subst (All (λ (s : SortId). s.0 < length c.args.sig.now.sorts)) (sym c.requires.sorts) (sorts_within c.args.sig.now c.signature_stands.ensures c.args.lin.now.params.items c.requires.lin.params)

pub decide_equal-requires-clause-firsts : goal.decide_equal-requires-clause-firsts
decide_equal-requires-clause-firsts g c =
    subst (λ (z : List TermId). AreClosed c.args.sig.now c.args.pool.now.trees c.args.sorts.now z) (sym c.as_slice.ensures.value)
    (state_closed c.args.sig.now c.signature_stands.ensures c.args.pool.now.trees c.args.lin.now.params.items c.args.sorts.now c.args.lin.now.init.items c.requires.lin.params c.requires.sorts (record { terms = c.requires.lin.init; closed = c.requires.lin.closed }))

pub decide_equal-requires-clause-seconds : goal.decide_equal-requires-clause-seconds
decide_equal-requires-clause-seconds g c =
    let inside : c.args.lts.now.first < length c.args.lts.now.states.items = omega (arith, c.requires.system.first, length-map c.args.lts.now.states.items plain_next) in
    state_closed c.args.sig.now c.signature_stands.ensures c.args.pool.now.trees c.args.lin.now.params.items c.args.sorts.now c.as_slice-in-Some.result.now c.requires.lin.params c.requires.sorts
    (terms_there c.args.sig.now c.args.pool.now.trees c.args.lin.now.params.items c.args.lts.now.states.items c.args.lts.now.first c.index.result.now c.in-Some.terms c.as_slice-in-Some.result.now inside c.index.ensures c.in-Some.is c.as_slice-in-Some.ensures.value c.requires.system.states)

pub returns-in-Some-clause-start : goal.returns-in-Some-clause-start
returns-in-Some-clause-start g c = if_ok_then c.decide_equal.result (λ a k. λ own h.
    let inside : c.args.lts.now.first < length c.args.lts.now.states.items = omega (arith, c.requires.system.first, length-map c.args.lts.now.states.items plain_next) in
    start_compared (setting c.args.sig.now own c.args.fuel) c.args.pool.now.trees (plain_linear c.args.lin.now) c.args.lts.now c.index.result.now inside c.index.ensures c.in-Some.terms c.in-Some.is (answer_of a)
    (terms_decided (setting c.args.sig.now own c.args.fuel) c.signature_stands.ensures c.args.pool.now.trees (plain_linear c.args.lin.now) c.requires.lin c.args.sorts.now c.as_slice.result.now c.as_slice-in-Some.result.now c.args.lin.now.init.items c.in-Some.terms.items c.requires.sorts c.as_slice.ensures.value c.as_slice-in-Some.ensures.value
    (record { terms = c.requires.lin.init; closed = c.requires.lin.closed })
    (terms_there c.args.sig.now c.args.pool.now.trees c.args.lin.now.params.items c.args.lts.now.states.items c.args.lts.now.first c.index.result.now c.in-Some.terms c.in-Some.terms.items inside c.index.ensures c.in-Some.is refl c.requires.system.states) (answer_of a) (k own h))) c.decide_equal.ensures.comes
