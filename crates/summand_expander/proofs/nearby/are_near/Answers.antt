use Rattle.std.proofs.Common.{map, sym, subst, ◌∙◌, true≢false}
use Rattle.std.specs.Prelude.{Contains}
use Rattle.std.specs.List.{All}
use Rattle.process_terms.specs.PlainProcesses.{plain_action}
use Rattle.action_filters.specs.Filters.{naming, IsActionIn}
use Rattle.action_filters.proofs.Loops.{mapped_item}
use Rattle.summand_expander.proofs.NearLabels.{action_name_in}
use Rattle.summand_expander.proofs.nearby.are_near.Goals as goal

pub name_of-requires : goal.name_of-requires
name_of-requires c =
    mapped_item plain_action (IsActionIn c.args.sig.now) c.deref-action-items.result.now c.loop-action.action-index c.action-item.result c.action-item.result c.loop-action-test.true c.action-item.is
    (subst (λ z. All (IsActionIn c.args.sig.now) (map plain_action z)) (sym c.deref-action-items.ensures.value) c.requires)

pub returns-then-not-is_in : goal.returns-then-not-is_in
returns-then-not-is_in c e =
    let name = (naming c.args.sig.now).name in
    let among = subst (λ xs. Contains (map name (map plain_action xs)) c.name_of.result) c.deref-action-items.ensures.value
    (subst (λ x. Contains (map name (map plain_action c.deref-action-items.result.now)) x) (sym c.name_of.ensures)
    (action_name_in name c.deref-action-items.result.now c.loop-action.action-index c.action-item.result c.action-item.result c.loop-action-test.true c.action-item.is)) in
    (c.name_of.result, (among, sym c.is_in.ensures ∙ c.if-not-is_in.true))

pub returns : goal.returns
returns c e = absurd (true≢false e)
