use Rattle.std.proofs.Common.{sym, ◌∙◌}
use Rattle.mcrl2_syntax.specs.ProcessParts.{plain_action}
use Rattle.sort_checker.specs.ReadyTrees.{IsReadyLeaf, leaves_of_action}
use Rattle.sort_checker.specs.TypedTrees.{is_step}
use Rattle.sort_checker.proofs.NameLists.{one_image_fails}
use Rattle.sort_checker.proofs.ReadyLeaves.{holds_along_mapped}
use Rattle.sort_checker.proofs.typed_parts.are_steps.Goals as goal

pub is_step-requires-clause-ready : goal.is_step-requires-clause-ready
is_step-requires-clause-ready c = holds_along_mapped plain_action leaves_of_action (IsReadyLeaf c.args.context.now.sig.now.texts) c.args.actions.now c.requires.ready c.loop-action.action-index c.action-item.result c.loop-action-test.true c.action-item.is

pub returns-then-not-branch : goal.returns-then-not-branch
returns-then-not-branch c =
    sym (one_image_fails (is_step c.args.context.now c.args.scope.now) plain_action c.args.actions.now c.loop-action.action-index c.action-item.result c.loop-action-test.true c.action-item.is (sym c.in_ok-is_step.ensures ∙ c.if-not-branch.true))
