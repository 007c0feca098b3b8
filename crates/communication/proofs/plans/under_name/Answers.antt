use Rattle.std.proofs.Common.{◌≡◌, ◌∙◌, ℕ, Some, ap}
use Rattle.data_theory.specs.Keys.{key}
use Rattle.process_terms.specs.PlainProcesses.{plain_action}
use Rattle.action_filters.specs.Filters.{key_of_action}
use Rattle.action_filters.proofs.Loops.{if_ok}
use Rattle.action_filters.proofs.Renamed.{place_is}
use Rattle.communication.specs.Plans.{under_name}
use Rattle.communication.proofs.plans.under_name.Goals as goal

pub returns : goal.returns
returns c =
    let g = c.args.sig.now in
    let a = plain_action c.args.action.now in
    let p = place_is g.actions (key c.args.name (key_of_action g a).sorts) c.in-Some.act.0 c.signature_stands.ensures.actions_differ (c.in-Some.ensures ∙ ap (λ ss. Some (key c.args.name ss)) c.sorts_of.ensures) in
    if_ok c.with_act.result (λ made. plain_action made ≡ record { act = c.in-Some.act; args = a.args }) (λ made. plain_action made ≡ under_name g c.args.name a)
    (λ made e. e ∙ ap (λ (i : ℕ). record { act = record { 0 = i }; args = a.args }) p) c.with_act.ensures
