use Rattle.std.proofs.Common.{List, subst, sym}
use Rattle.std.specs.List.{All}
use Rattle.std.specs.Prelude.{◌<◌, length, IfSome, Option, Vec}
use Rattle.std.specs.Global.{Global}
use Rattle.data_theory.specs.declared.ids.SortId.{SortId}
use Rattle.data_theory.specs.declared.ids.TermId.{TermId}
use Rattle.lps_core.specs.PlainLinears.{plain_linear, plain_next}
use Rattle.lps_simulator.specs.OptionsInCode.{IsState}
use Rattle.trace_replay.specs.DecidedConditions.{answer_of}
use Rattle.aut_check.specs.Comparing.{setting, AreClosed}
use Rattle.aut_check.specs.Verdicts.{sorts_in}
use Rattle.aut_check.proofs.ClosedTerms.{if_ok_then, sorts_within, state_closed}
use Rattle.aut_check.proofs.ComparedPairs.{both_go_on, next_ended, next_goes_on, state_goes_on, terms_decided}
use Rattle.aut_check.proofs.pairs.compare_next.Goals as goal

pub decide_equal-requires-clause-sorts : goal.decide_equal-requires-clause-sorts
decide_equal-requires-clause-sorts g c = subst (All (λ (s : SortId). s.0 < length c.args.sig.now.sorts)) (sym c.requires.sorts) (sorts_within c.args.sig.now c.signature_stands.ensures c.args.lin.now.params.items c.requires.lin.params)

pub decide_equal-requires-clause-firsts : goal.decide_equal-requires-clause-firsts
decide_equal-requires-clause-firsts g c =
    subst (λ (z : List TermId). AreClosed c.args.sig.now c.args.pool.now.trees c.args.sorts.now z) (sym c.as_slice.ensures.value)
    (state_closed c.args.sig.now c.signature_stands.ensures c.args.pool.now.trees c.args.lin.now.params.items c.args.sorts.now c.in-Some-Some.firsts.items c.requires.lin.params c.requires.sorts
    (subst (λ (z : Option (Vec TermId Global)). IfSome (plain_next z) (IsState c.args.sig.now c.args.pool.now.trees c.args.lin.now.params.items)) c.in-Some-Some.is-0 c.requires.next))

pub decide_equal-requires-clause-seconds : goal.decide_equal-requires-clause-seconds
decide_equal-requires-clause-seconds g c =
    subst (λ (z : List TermId). AreClosed c.args.sig.now c.args.pool.now.trees c.args.sorts.now z) (sym c.as_slice-in-Some-Some.ensures.value)
    (state_closed c.args.sig.now c.signature_stands.ensures c.args.pool.now.trees c.args.lin.now.params.items c.args.sorts.now c.in-Some-Some.seconds.items c.requires.lin.params c.requires.sorts
    (subst (λ (z : Option (Vec TermId Global)). IfSome (plain_next z) (IsState c.args.sig.now c.args.pool.now.trees c.args.lin.now.params.items)) c.in-Some-Some.is-1 c.requires.state))

pub returns-in-None-None-clause-next : goal.returns-in-None-None-clause-next
returns-in-None-None-clause-next g c = λ own h. next_ended (setting c.args.sig.now own c.args.fuel) c.args.pool.now.trees (sorts_in (setting c.args.sig.now own c.args.fuel) c.args.pool.now.trees (plain_linear c.args.lin.now)) c.args.next.now c.args.state.now c.in-None-None.is-0 c.in-None-None.is-1

pub returns-in-None-Some-clause-next : goal.returns-in-None-Some-clause-next
returns-in-None-Some-clause-next g c = λ own h. state_goes_on (setting c.args.sig.now own c.args.fuel) c.args.pool.now.trees (sorts_in (setting c.args.sig.now own c.args.fuel) c.args.pool.now.trees (plain_linear c.args.lin.now)) c.args.next.now c.args.state.now c.in-None-Some.field-0-1 c.in-None-Some.is-0 c.in-None-Some.is-1

pub returns-in-Some-None-clause-next : goal.returns-in-Some-None-clause-next
returns-in-Some-None-clause-next g c = λ own h. next_goes_on (setting c.args.sig.now own c.args.fuel) c.args.pool.now.trees (sorts_in (setting c.args.sig.now own c.args.fuel) c.args.pool.now.trees (plain_linear c.args.lin.now)) c.args.next.now c.args.state.now c.in-Some-None.field-0-0 c.in-Some-None.is-0 c.in-Some-None.is-1

pub returns-in-Some-Some-clause-next : goal.returns-in-Some-Some-clause-next
returns-in-Some-Some-clause-next g c = if_ok_then c.decide_equal.result (λ a k. λ own h.
    both_go_on (setting c.args.sig.now own c.args.fuel) c.args.pool.now.trees (sorts_in (setting c.args.sig.now own c.args.fuel) c.args.pool.now.trees (plain_linear c.args.lin.now)) c.args.next.now c.args.state.now c.in-Some-Some.firsts c.in-Some-Some.seconds c.in-Some-Some.is-0 c.in-Some-Some.is-1 (answer_of a)
    (terms_decided (setting c.args.sig.now own c.args.fuel) c.signature_stands.ensures c.args.pool.now.trees (plain_linear c.args.lin.now) c.requires.lin c.args.sorts.now c.as_slice.result.now c.as_slice-in-Some-Some.result.now c.in-Some-Some.firsts.items c.in-Some-Some.seconds.items c.requires.sorts c.as_slice.ensures.value c.as_slice-in-Some-Some.ensures.value
    (subst (λ (z : Option (Vec TermId Global)). IfSome (plain_next z) (IsState c.args.sig.now c.args.pool.now.trees c.args.lin.now.params.items)) c.in-Some-Some.is-0 c.requires.next)
    (subst (λ (z : Option (Vec TermId Global)). IfSome (plain_next z) (IsState c.args.sig.now c.args.pool.now.trees c.args.lin.now.params.items)) c.in-Some-Some.is-1 c.requires.state) (answer_of a) (k own h))) c.decide_equal.ensures.comes
