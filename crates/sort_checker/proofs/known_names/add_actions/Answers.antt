use Rattle.std.proofs.Common.{◌<◌, length}
use Rattle.data_theory.specs.Actions.{actions_of}
use Rattle.data_theory.specs.Keys.{Key}
use Rattle.sort_checker.proofs.NumberedActions.{all_by}
use Rattle.sort_checker.proofs.NameLists.{action_holds}
use Rattle.sort_checker.proofs.known_names.add_actions.Goals as goal

pub action_text-requires : goal.action_text-requires
action_text-requires c =
    action_holds (λ (a : Key). a.name.0 < length c.args.sig.now.texts) c.args.actions.now (all_by (λ (a : Key). a.name.0 < length c.args.sig.now.texts) (actions_of c.args.actions.now) c.requires) c.loop-action.action-index c.action-item.result c.loop-action-test.true c.action-item.is
