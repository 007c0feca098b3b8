use Rattle.std.proofs.Common.{◌≡◌, Bool, map, sym, ap, ap₂, ◌∙◌}
use Rattle.process_terms.specs.PlainProcesses.{items_of_each, plain_rule}
use Rattle.action_filters.specs.Filters.{same_name}
use Rattle.action_filters.proofs.Loops.{if_ok}
use Rattle.summand_expander.specs.CompletableTests.{is_completable}
use Rattle.summand_expander.specs.PlainAllowed.{joinings, plain_allowed, can_complete_ids}
use Rattle.summand_expander.proofs.CompletedSets.{some_completable}
use Rattle.summand_expander.proofs.completing.is_completable.Goals as goal

pub returns : goal.returns
returns c =
    let rules = joinings (map plain_rule c.as_slice-rules.result.now) in
    let e = some_completable rules (joinings (map plain_rule c.as_slice.result.now)) (items_of_each c.as_slice-2.result.now) c.args.names.now (record { 0 = 0 }) (sym c.is_empty.ensures ∙ c.if-is_empty.false)
    (ap (λ rs. joinings (map plain_rule rs)) c.as_slice.ensures.value ∙ c.in_ok-candidates.ensures) in
    let k = ap₂ (λ rs ss. is_completable same_name (joinings (map plain_rule rs)) (items_of_each ss) c.args.names.now) c.as_slice-rules.ensures.value c.as_slice-2.ensures.value in
    if_ok c.some_completes.result _ (λ (can : Bool). can ≡ can_complete_ids (plain_allowed c.args.allowed.now) c.args.names.now) (λ can q. q ∙ e ∙ k) c.some_completes.ensures
