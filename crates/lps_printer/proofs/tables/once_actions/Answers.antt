use Rattle.std.proofs.Common.{◌∙◌, ◌++◌, ◌∷◌, []}
use Rattle.data_theory.specs.Keys.{Key, key}
use Rattle.lps_printer.specs.SignatureNames.{is_action_once}
use Rattle.lps_printer.proofs.NameTables.{one_more, within_actions, action_at, action_named_within}
use Rattle.lps_printer.proofs.tables.once_actions.Goals as goal

pub is_action_once-requires-clause-name : goal.is_action_once-requires-clause-name
is_action_once-requires-clause-name c =
    action_named_within c.args.sig.now c.acts-action-items.result.now c.acts-action-items.ensures c.loop-action.action-index c.loop-action-test.true c.names.ensures.stands.complete c.action-item.result c.action-item.is

pub loop-action-preserved : goal.loop-action-preserved
loop-action-preserved c =
    let g = c.args.sig.now in
    let es = c.acts-action-items.result.now in
    let i = c.loop-action.action-index in
    let a = c.action-item.result in
    c.in_ok-push.ensures.items ∙ (λ k. c.loop-action.invariant k ++ c.in_ok-is_action_once.ensures k ∷ [])
    ∙ one_more (λ (x : Key). is_action_once g x.name) g.actions i (key a.name a.sorts.items) (within_actions g es c.acts-action-items.ensures i c.loop-action-test.true) (action_at g es c.acts-action-items.ensures i c.loop-action-test.true a c.action-item.is)
